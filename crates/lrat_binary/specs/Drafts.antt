-- The draft of a line, and what it takes.
--     slot_of draft, line_of draft head      what is due;  the line that has ended
--     BeginsLine, TakesNumber      what a letter and a number did
use Rattle.std.specs.Prelude.{◌≡◌, ℕ, List, Option, Some, None, Result, Ok, Err}
use Rattle.lrat_rules.specs.Lines.{Line}
use Rattle.drat_text.specs.declared.fault.DratKind.{DratKind}
use Rattle.sat_formula.specs.declared.stop.Stop.{Stop}
use Rattle.sat_formula.specs.declared.stop.Stop.TheVariants as stops
use Rattle.lrat_text.specs.Reading as rows
use Rattle.lrat_text.specs.declared.line.Hint.{Hint}
use Rattle.lrat_text.specs.declared.row.Head.{Head}
use Rattle.lrat_binary.specs.declared.draft.Draft.{Draft}
use Rattle.lrat_binary.specs.declared.draft.Due.{Due}
use Rattle.lrat_binary.specs.declared.draft.Due.TheVariants as dues
use Rattle.lrat_binary.specs.Places.{Slot, IdDue, LitDue, HintDue, DeletedDue, After, Goes, Gives, Stops, Within}

-- what is due, after these lists
abbrev pub slot_at : Due → List ℕ → List Hint → List ℕ → Slot
slot_at dues.Id lits hints deleted = IdDue
slot_at (dues.Lit id) lits hints deleted = LitDue id lits
slot_at (dues.Hint id) lits hints deleted = HintDue id lits hints
slot_at dues.Deleted lits hints deleted = DeletedDue deleted

-- what is due in a draft
abbrev pub slot_of : Draft → Slot
slot_of d = slot_at d.due d.row.lits.items d.row.hints.items d.row.ids.items

-- the line of a draft that has ended
abbrev pub line_of : Draft → Head → Line
line_of d head = rows.line_of d.row head

-- a byte began the draft, or stops the reading
abbrev pub BeginsLine : {X : Type 0} → Draft → After → Result X (Stop DratKind) → Type 0
BeginsLine d a (Ok x) = a ≡ Goes (Within (slot_of d))
BeginsLine d a (Err stops.End) = ⊥
BeginsLine d a (Err stops.Read) = ⊥
BeginsLine d a (Err (stops.Wrong kind)) = a ≡ Stops kind
BeginsLine d a (Err stops.OutOfMemory) = ⊥

-- what a number does was done to the draft
abbrev pub TakesNumber : Draft → After → Result (Option Head) (Stop DratKind) → Type 0
TakesNumber d a (Ok (Some head)) = a ≡ Gives (line_of d head)
TakesNumber d a (Ok None) = a ≡ Goes (Within (slot_of d))
TakesNumber d a (Err stops.End) = ⊥
TakesNumber d a (Err stops.Read) = ⊥
TakesNumber d a (Err (stops.Wrong kind)) = a ≡ Stops kind
TakesNumber d a (Err stops.OutOfMemory) = Unit {0}
