-- What the parts of reading a line answer, after this many lines. f is what all the bytes give from where the part began.
use Rattle.std.specs.Prelude.{ℕ, List, [], Option, Result, Ok, Err}
use Rattle.sat_formula.specs.Outcome.{next_line}
use Rattle.sat_formula.specs.Readings.{Leads}
use Rattle.sat_formula.specs.declared.source.Source.{Source}
use Rattle.lrat_rules.specs.Lines.{Line}
use Rattle.drat_text.specs.declared.fault.DratKind.{DratKind}
use Rattle.sat_formula.specs.declared.stop.Stop.{Stop}
use Rattle.lrat_text.specs.Texts.{Outcome, Faulty, with_line}
use Rattle.lrat_text.specs.declared.row.Head.{Head}
use Rattle.lrat_binary.specs.declared.draft.Draft.{Draft}
use Rattle.lrat_binary.specs.declared.ids.Ids.{Ids}
use Rattle.lrat_binary.specs.Drafts.{slot_of, line_of}
use Rattle.lrat_binary.specs.Kinds.{line_kind}
use Rattle.lrat_binary.specs.Lines.{binary_after, outcome_at}
use Rattle.lrat_binary.specs.Places.{After, Goes, Gives, Stops, Slot, Within, said}
use Rattle.lrat_binary.specs.Taking.{Stopped}

-- a line, and the bytes after it
abbrev pub line_then : Ids → ℕ → Line → List ℕ → Outcome
line_then ids before line more =
    with_line (next_line before) line (binary_after ids (next_line before) more)

-- what a byte did, and the bytes after it
abbrev pub goes_on : Ids → ℕ → After → List ℕ → Outcome
goes_on ids before d more = elim d [
  | Goes p ↦ outcome_at ids before p more
  | Gives line ↦ line_then ids before line more
  | Stops kind ↦ ([], Faulty (next_line before) (line_kind kind))
]

-- a line was begun by its letter
abbrev pub ReadsLetter : {R X : Type 0} → Ids → ℕ → Draft → Option (List ℕ) → Option (List ℕ) →
    (List ℕ → Outcome) → Source R → Result X (Stop DratKind) → Type 0
ReadsLetter ids before d old new f source (Ok x) =
    Leads old new f (outcome_at ids before (Within (slot_of d)))
ReadsLetter ids before d old new f source (Err stop) = Stopped ids before old new f source stop

-- a number was read
abbrev pub ReadsCode : {R : Type 0} → Ids → ℕ → Slot → Option (List ℕ) → Option (List ℕ) →
    (List ℕ → Outcome) → Source R → Result ℕ (Stop DratKind) → Type 0
ReadsCode ids before slot old new f source (Ok v) =
    Leads old new f (goes_on ids before (said ids slot v))
ReadsCode ids before slot old new f source (Err stop) = Stopped ids before old new f source stop

-- a line was read into this draft
abbrev pub ReadsLine : {R : Type 0} → Ids → ℕ → Draft → Option (List ℕ) → Option (List ℕ) →
    (List ℕ → Outcome) → Source R → Result Head (Stop DratKind) → Type 0
ReadsLine ids before d old new f source (Ok head) =
    Leads old new f (line_then ids before (line_of d head))
ReadsLine ids before d old new f source (Err stop) = Stopped ids before old new f source stop
