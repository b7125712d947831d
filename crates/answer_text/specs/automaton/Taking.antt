-- What the reader does at a byte and at the end.
--     HasRead old new table s      the bytes so far lead to this spot
--     IsTaken step table r      the literals and the spot after a byte, or why it was not taken
--     Ends o r      what the text says, where it ends
use Rattle.std.specs.Prelude.{◌≡◌, ℕ, List, Option, Result, Ok, Err}
use Rattle.sat_formula.specs.Readings.{Leads}
use Rattle.answer_text.specs.declared.fault.AnswerKind.{AnswerKind}
use Rattle.sat_formula.specs.declared.read_fault.LineNumber.{LineNumber}
use Rattle.sat_formula.specs.declared.read_fault.UntakenByte.{UntakenByte}
use Rattle.sat_formula.specs.declared.read_fault.UntakenByte.TheVariants as untaken
use Rattle.answer_text.specs.declared.literals.Literals.{Literals}
use Rattle.answer_text.specs.declared.spot.Spot.{Spot}
use Rattle.answer_text.specs.automaton.Answers.{Step, On, Off, outcome_at, outcome_read}
use Rattle.answer_text.specs.Answers.{Outcome, Lists, Faulty}
use Rattle.answer_text.specs.Literals.{HasThe, IsConsistent, listed}

-- the literals so far, of which no two are opposite, are in the set, and the bytes so far lead to this spot
pub record HasRead (old new : Option (List ℕ)) (table : Literals) (s : Spot) : Type 0 where
  pub lits : List ℕ
  pub apart : IsConsistent (listed lits)
  pub has : HasThe lits table
  pub leads : Leads old new outcome_read (outcome_at lits s)

-- what a byte did: the literals and the spot after it, or why it was not taken
abbrev pub IsTaken : Step → Literals → Result Spot (UntakenByte LineNumber AnswerKind) → Type 0
IsTaken step table (Ok s) = (lits : List ℕ) × (step ≡ On lits s) × HasThe lits table
IsTaken step table (Err (untaken.Wrong at kind)) = step ≡ Off at.0 kind
IsTaken step table (Err untaken.OutOfMemory) = Unit {0}

-- the end of the text, which says this
abbrev pub Ends : Outcome → Result Literals (UntakenByte LineNumber AnswerKind) → Type 0
Ends o (Ok table) = (lits : List ℕ) × (o ≡ Lists lits) × HasThe lits table
Ends o (Err (untaken.Wrong at kind)) = o ≡ Faulty at.0 kind
Ends o (Err untaken.OutOfMemory) = Unit {0}
