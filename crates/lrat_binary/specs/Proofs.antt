-- What the bytes of a proof say in a form, and what a reader of either form knows and answers.
--     outcome_in form bytes      the lines of a proof, each with its number, up to the end or to the first fault with its line
--     SaysAll says known ls e, BeginsWith says known ls      a proof says these lines and ends so;  it begins with these lines
--     bytes_left, line_number, has_ended, work_left, form_now      what a caller knows of a reader
--     Gives      what a call gave, and the reader after it
use Rattle.std.specs.Prelude.{◌≡◌, ℕ, ◌+◌, ◌-◌, ◌^◌, ◌≤◌, Bool, false, List, Option, IfSome, Result}
use Rattle.std.specs.Io.KnownBytes.{Keeps}
use Rattle.lrat_rules.specs.Lines.{Line}
use Rattle.lrat_text.specs.NextLine as texts
use Rattle.lrat_text.specs.Texts.{Ending, Outcome, outcome_after, with_lines}
use Rattle.sat_formula.specs.declared.read_fault.ReadFault.TheVariants as faults
use Rattle.lrat_text.specs.Faults.{LratTextFault}
use Rattle.lrat_text.specs.declared.line.LratLine.{LratLine}
use Rattle.lrat_binary.specs.declared.ids.LratForm.{LratForm}
use Rattle.lrat_binary.specs.declared.ids.LratForm.TheVariants as forms
use Rattle.lrat_binary.specs.declared.proof.LratReader.{LratReader}
use Rattle.lrat_binary.specs.declared.proof.LratReader.TheVariants.{Text, Binary}
use Rattle.lrat_binary.specs.Lines.{binary_after}
use Rattle.lrat_binary.specs.NextLine as binaries

-- the rest of a proof, after the line of this number
abbrev pub lines_after : LratForm → ℕ → List ℕ → Outcome
lines_after forms.Text before bytes = outcome_after before bytes
lines_after (forms.Binary ids) before bytes = binary_after ids before bytes

-- the whole proof; its lines count from 1
abbrev pub outcome_in : LratForm → List ℕ → Outcome
outcome_in form bytes = lines_after form 0 bytes

-- the proof, where its bytes are known, says these lines and ends so
abbrev pub SaysAll : (List ℕ → Outcome) → Option (List ℕ) → List (ℕ × Line) → Ending → Type 0
SaysAll says known ls e = IfSome known (λ bytes. says bytes ≡ (ls, e))

-- it begins with these lines
abbrev pub BeginsWith : (List ℕ → Outcome) → Option (List ℕ) → List (ℕ × Line) → Type 0
BeginsWith says known ls = (o : Outcome) × IfSome known (λ bytes. says bytes ≡ with_lines ls o)

-- ---- a reader

-- the bytes that are still to come, if the reader beneath says them
abbrev pub bytes_left : {R : Type 0} → (R → Option (List ℕ)) → LratReader R → Option (List ℕ)
bytes_left remaining (Text r) = texts.bytes_left remaining r
bytes_left remaining (Binary r) = binaries.bytes_left remaining r

-- the number of the last line that was read to its end, 0 before the first
abbrev pub line_number : {R : Type 0} → LratReader R → ℕ
line_number (Text r) = texts.line_number r
line_number (Binary r) = binaries.line_number r

-- no line comes any more
abbrev pub has_ended : {R : Type 0} → LratReader R → Bool
has_ended (Text r) = texts.has_ended r
has_ended (Binary r) = binaries.has_ended r

-- a number that falls with each line that is given
abbrev pub work_left : {R : Type 0} → LratReader R → ℕ
work_left (Text r) = texts.work_left r
work_left (Binary r) = binaries.work_left r

-- the form in which it reads
abbrev pub form_now : {R : Type 0} → LratReader R → LratForm
form_now (Text r) = forms.Text
form_now (Binary r) = forms.Binary (binaries.ids_of r)

-- the lines of a text, with those that its bytes still have room for, are fewer than a number can count
abbrev pub IsCounted : {R : Type 0} → LratReader R → Type 0
IsCounted (Text r) = texts.line_number r + texts.room_left r ≤ 2 ^ 64 - 2
IsCounted (Binary r) = Unit {0}

-- no line was read yet of these bytes, in this form
pub record IsFresh {R : Type 0} (remaining : R → Option (List ℕ)) (known : Option (List ℕ))
    (in_form : LratForm) (r : LratReader R) : Type 0 where
  pub bytes : Keeps known (bytes_left remaining r)
  pub form : form_now r ≡ in_form
  pub line : line_number r ≡ 0
  pub ended : has_ended r ≡ false
  pub counted : IsCounted r

-- no fault of a line
abbrev pub IsNoLine : LratTextFault → Type 0
IsNoLine (faults.Read e) = Unit {0}
IsNoLine (faults.Wrong at kind) = ⊥
IsNoLine faults.OutOfMemory = Unit {0}

-- a call's answer is that of the reader of its form
abbrev pub Gives : {R : Type 0} → (R → Option (List ℕ)) → LratReader R → LratReader R →
    Result (Option LratLine) LratTextFault → Type 0
Gives remaining (Text old) (Text new) r = texts.Gives remaining old new r
Gives remaining (Text old) (Binary new) r = ⊥
Gives remaining (Binary old) (Text new) r = ⊥
Gives remaining (Binary old) (Binary new) r = binaries.Gives remaining old new r
