-- Runs of a solver's answer.
--     OfLits answer P      this holds of the literals that an answer lists
--     IsPossibleRun known answer r      a verdict on one circuit, or why there is none
--     IsDifferentRun pairing text text' answer r      a verdict on two circuits, or why there is none
use Rattle.std.specs.Prelude.{ℕ, Bool, List, Option, Result, Ok, Err}
use Rattle.std.specs.Io.KnownBytes.{Appends}
use Rattle.whole_writes.specs.Beginnings.{AppendsBeginning}
use Rattle.answer_text.specs.Answers.{Lists}
use Rattle.answer_text.specs.Literals.{IsConsistent, listed}
use Rattle.answer_text.specs.Reading as answers
use Rattle.circuit_text.specs.declared.circuit.Circuit as read
use Rattle.circuit_clauses.specs.Causes.{IsCause}
use Rattle.circuit_answers.specs.Answers.{IsDifferentJudged, IsPossibleJudged}
use Rattle.circuit_names.specs.declared.pairing.Pairing.{Pairing}
use Rattle.circuit_answers.specs.Causes.{different_cause, possible_cause}
use Rattle.verdicts.specs.declared.verdict.Verdict.{Verdict}
use Rattle.circuit_check.specs.Reads.{FailsGates, FailsPaired, OfGates, OfPaired}
use Rattle.circuit_check.specs.declared.fault.CircuitFault.{CircuitFault}
use Rattle.circuit_check.specs.declared.fault.CircuitFault.TheVariants.{NoFormula, Answer, Write}

-- this holds of the set of the literals that the answer lists, no two of which are opposite
pub record OfLits (answer : Option (List ℕ)) (P : (ℕ → Bool) → Type 0) : Type 0 where
  pub lits : List ℕ
  pub lists : answers.IsOutcome answer (Lists lits)
  pub apart : IsConsistent (listed lits)
  pub holds : P (listed lits)

-- ---- one circuit

-- this holds of the circuit and of the set of literals
abbrev pub OfPossible : Option (List ℕ) → Option (List ℕ) → (read.Circuit → (ℕ → Bool) → Type 0) → Type 0
OfPossible known answer P = OfGates known (λ c. OfLits answer (P c))

-- the fault of the circuit, then that of the answer, then that of its input, then that of the write
abbrev pub FailsPossible : Option (List ℕ) → Option (List ℕ) → CircuitFault → Type 0
FailsPossible known answer (NoFormula fault) = OfPossible known answer (λ c lits. IsCause (possible_cause c) fault)
FailsPossible known answer (Answer fault) = OfGates known (λ c. answers.FailsBy answer fault)
FailsPossible known answer (Write cause) = OfPossible known answer (λ c lits. Unit {0})
FailsPossible known answer fault = FailsGates known fault

-- the verdict and its text, which was appended
pub record WritesPossible (lits : ℕ → Bool) (c : read.Circuit) (verdict : Verdict) (old new : Option (List ℕ)) : Type 0 where
  pub text : List ℕ
  pub judged : IsPossibleJudged lits c verdict text
  pub appends : Appends old new text

-- a beginning of the text of a verdict was appended
pub record BeginsPossible (lits : ℕ → Bool) (c : read.Circuit) (old new : Option (List ℕ)) : Type 0 where
  pub verdict : Verdict
  pub text : List ℕ
  pub judged : IsPossibleJudged lits c verdict text
  pub begins : AppendsBeginning old new text

-- the verdict, or why there is none
abbrev pub IsPossibleRun : Option (List ℕ) → Option (List ℕ) → Result Verdict CircuitFault → Type 0
IsPossibleRun known answer (Ok verdict) =
    OfPossible known answer (λ c lits. (text : List ℕ) × IsPossibleJudged lits c verdict text)
IsPossibleRun known answer (Err fault) = FailsPossible known answer fault

-- ---- two circuits

-- this holds of the circuits and of the set of literals
abbrev pub OfDifferent : Pairing → List ℕ → List ℕ → Option (List ℕ)
    → (read.Circuit → read.Circuit → (ℕ → Bool) → Type 0) → Type 0
OfDifferent pairing text text' answer P = OfPaired pairing text text' (λ c d. OfLits answer (P c d))

-- the fault of the circuits, then that of the answer, then that of its input or of the shapes, then that of the write
abbrev pub FailsDifferent : Pairing → List ℕ → List ℕ → Option (List ℕ) → CircuitFault → Type 0
FailsDifferent pairing text text' answer (NoFormula fault) =
    OfDifferent pairing text text' answer (λ c d lits. IsCause (different_cause c d) fault)
FailsDifferent pairing text text' answer (Answer fault) = OfPaired pairing text text' (λ c d. answers.FailsBy answer fault)
FailsDifferent pairing text text' answer (Write cause) = OfDifferent pairing text text' answer (λ c d lits. Unit {0})
FailsDifferent pairing text text' answer fault = FailsPaired pairing text text' fault

-- the verdict and its text, which was appended
pub record WritesDifferent (lits : ℕ → Bool) (c c' : read.Circuit) (verdict : Verdict) (old new : Option (List ℕ)) : Type 0 where
  pub text : List ℕ
  pub judged : IsDifferentJudged lits c c' verdict text
  pub appends : Appends old new text

-- a beginning of the text of a verdict was appended
pub record BeginsDifferent (lits : ℕ → Bool) (c c' : read.Circuit) (old new : Option (List ℕ)) : Type 0 where
  pub verdict : Verdict
  pub text : List ℕ
  pub judged : IsDifferentJudged lits c c' verdict text
  pub begins : AppendsBeginning old new text

-- the verdict, or why there is none
abbrev pub IsDifferentRun : Pairing → List ℕ → List ℕ → Option (List ℕ) → Result Verdict CircuitFault → Type 0
IsDifferentRun pairing text text' answer (Ok verdict) =
    OfDifferent pairing text text' answer (λ c d lits. (text : List ℕ) × IsDifferentJudged lits c d verdict text)
IsDifferentRun pairing text text' answer (Err fault) = FailsDifferent pairing text text' answer fault
