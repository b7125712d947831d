-- A text has one answer.
--     StaysAccepted h text k      the text leads to k alone, and is never rejected
--     AnswerIsOne      so it is with each text that is accepted
use Rattle.std.specs.Prelude.{◌≡◌, ℕ, List}
use Rattle.sat_rules.specs.HintLines.{Listed}
use Rattle.hint_rules.specs.Accepted.{Accepts}
use Rattle.hint_checker.specs.Checked.{IsRefusal}
use Rattle.hint_checker.specs.declared.fault.HintFault.{HintFault}
use Rattle.hint_checker.specs.declared.fault.HintFault.TheVariants.{OutOfMemory}

-- the text leads to k alone, and a fault is out of memory
pub record StaysAccepted (h : Listed) (bytes : List ℕ) (k : Listed) : Type 0 where
  pub one : (j : Listed) → Accepts h bytes j → j ≡ k
  pub never : (fault : HintFault) → IsRefusal h bytes fault → fault ≡ OutOfMemory

-- a text that is accepted
abbrev pub AnswerIsOne : Type 0
AnswerIsOne = (h k : Listed) (bytes : List ℕ) → Accepts h bytes k → StaysAccepted h bytes k
