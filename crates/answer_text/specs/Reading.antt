-- What reading an answer gives.
--     ListsThe known table      the literals that the text lists are in the set
--     AnswerFault, FailsBy known fault      a fault of an answer;  why no literals are given
use Rattle.std.specs.Prelude.{◌≡◌, ℕ, List, Option, IfSome}
use Rattle.answer_text.specs.declared.fault.AnswerKind.{AnswerKind}
use Rattle.sat_formula.specs.declared.read_fault.LineNumber.{LineNumber}
use Rattle.sat_formula.specs.declared.read_fault.ReadFault.{ReadFault}
use Rattle.sat_formula.specs.declared.read_fault.ReadFault.TheVariants as faults
use Rattle.answer_text.specs.declared.literals.Literals.{Literals}
use Rattle.answer_text.specs.Literals.{HasThe, IsConsistent, listed}
use Rattle.answer_text.specs.Answers.{Outcome, Lists, Faulty, outcome_of}

-- this is what the text says, where it is known
abbrev pub IsOutcome : Option (List ℕ) → Outcome → Type 0
IsOutcome known o = IfSome known (λ text. outcome_of text ≡ o)

-- the literals that the text lists are in the set, and no two of them are opposite
pub record ListsThe (known : Option (List ℕ)) (table : Literals) : Type 0 where
  pub lits : List ℕ
  pub said : IsOutcome known (Lists lits)
  pub apart : IsConsistent (listed lits)
  pub has : HasThe lits table

-- a fault of an answer
abbrev pub AnswerFault : Type 0
AnswerFault = ReadFault LineNumber AnswerKind

-- why no literals are given: the text has this fault; a failed read and running out of memory can come anywhere
abbrev pub FailsBy : Option (List ℕ) → AnswerFault → Type 0
FailsBy known (faults.Read e) = Unit {0}
FailsBy known (faults.Wrong at kind) = IsOutcome known (Faulty at.0 kind)
FailsBy known faults.OutOfMemory = Unit {0}
