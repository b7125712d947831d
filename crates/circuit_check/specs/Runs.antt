-- Runs over circuits.
--     IsSilent r      no line of a verdict was begun
--     IsWritten r      a verdict, or a failed write of its line
--     IsUnwritten r      a failed write of the line of a verdict
--     IsClaimRun IsFormula Fails r      a verdict on the proof of such a formula, or why there is none
--     IsSafeRun known known' r      a verdict on the three proofs of a machine, or why there is none
--     BeginsClaim, BeginsSafe      what was written, where the line was not written whole
--     IsUnmade, AreUnmade      why a formula, or the three of a machine, were not written whole, and what was written
use Rattle.std.specs.Prelude.{◌≡◌, ◌⊎◌, ℕ, List, Option, Result, Ok, Err}
use Rattle.whole_writes.specs.Beginnings.{AppendsBeginning}
use Rattle.sat_output.specs.FormulaTexts.{formula_text}
use Rattle.refutation_rules.specs.Cubes.{IsRefuted}
use Rattle.circuit_clauses.specs.Causes.{IsCause, part_cause}
use Rattle.circuit_clauses.specs.Machines.{part_clauses}
use Rattle.circuit_clauses.specs.declared.fault.ClausesFault.{ClausesFault}
use Rattle.circuit_clauses.specs.declared.induction.Induction.{Induction}
use Rattle.circuit_clauses.specs.declared.induction.Part.{Part}
use Rattle.circuit_clauses.specs.declared.induction.Part.TheVariants as parts
use Rattle.drat_check.specs.Runs.{IsProofRun}
use Rattle.drat_check.specs.declared.fault.RunFault.{RunFault}
use Rattle.verdicts.specs.declared.verdict.Verdict.{Verdict}
use Rattle.verdicts.specs.declared.verdict.Verdict.TheVariants.{Verified, NotVerified}
use Rattle.circuit_check.specs.Claims.{IsAppended, IsInductionText, RefutesAll}
use Rattle.circuit_check.specs.Reads.{FailsSafe}
use Rattle.circuit_check.specs.Verdicts.{claim_line}
use Rattle.circuit_check.specs.declared.fault.CircuitFault.{CircuitFault}
use Rattle.circuit_check.specs.declared.fault.CircuitFault.TheVariants.{NoFormula, Proof, InitialProof, StepProof, BadProof, Formula, Write}
use Rattle.circuit_check.specs.declared.line.Claim.{Claim}
use Rattle.circuit_check.specs.declared.line.Claim.TheVariants.{Safe}

-- ---- writes

-- no line of a verdict was begun
abbrev pub IsSilent : Result Verdict CircuitFault → Type 0
IsSilent (Ok verdict) = ⊥
IsSilent (Err (Write cause)) = ⊥
IsSilent r = Unit {0}

-- a verdict, or a failed write of its line
abbrev pub IsWritten : Result Verdict CircuitFault → Type 0
IsWritten (Ok verdict) = Unit {0}
IsWritten (Err (Write cause)) = Unit {0}
IsWritten r = ⊥

-- there is a verdict, and its line was not written whole
abbrev pub IsUnwritten : Result Verdict CircuitFault → Type 0
IsUnwritten (Err (Write cause)) = Unit {0}
IsUnwritten r = ⊥

-- ---- one proof

-- where it is verified, no assignment satisfies the formula
abbrev pub IsShown : List (List ℕ) → Verdict → Type 0
IsShown formula Verified = IsRefuted formula
IsShown formula NotVerified = Unit {0}

-- why there is no verdict: there is no such formula, or a fault of the proof or of the write, after the formula was made
abbrev pub FailsClaim : (List (List ℕ) → Type 0) → (CircuitFault → Type 0) → CircuitFault → Type 0
FailsClaim IsFormula Fails (Proof fault) = (formula : List (List ℕ)) × IsFormula formula × IsProofRun formula (Err fault)
FailsClaim IsFormula Fails (Write cause) = (formula : List (List ℕ)) × IsFormula formula
FailsClaim IsFormula Fails fault = Fails fault

-- a verdict on the proof of such a formula, or why there is none
abbrev pub IsClaimRun : (List (List ℕ) → Type 0) → (CircuitFault → Type 0) → Result Verdict CircuitFault → Type 0
IsClaimRun IsFormula Fails (Ok verdict) =
    (formula : List (List ℕ)) × IsFormula formula × IsShown formula verdict
IsClaimRun IsFormula Fails (Err fault) = FailsClaim IsFormula Fails fault

-- a beginning of the line of a verdict on the proof of such a formula was appended
pub record BeginsClaim (IsFormula : List (List ℕ) → Type 0) (claim : Claim) (old new : Option (List ℕ)) : Type 0 where
  pub formula : List (List ℕ)
  pub is : IsFormula formula
  pub verdict : Verdict
  pub shown : IsShown formula verdict
  pub begins : AppendsBeginning old new (claim_line claim verdict)

-- ---- three proofs

-- where they are verified, all three formulas are refuted
abbrev pub ShowsAll : Induction → Verdict → Type 0
ShowsAll i Verified = RefutesAll i
ShowsAll i NotVerified = Unit {0}

-- the fault of a run of the proof of this part
abbrev pub proof_fault : Part → RunFault → CircuitFault
proof_fault parts.Initial fault = InitialProof fault
proof_fault parts.Step fault = StepProof fault
proof_fault parts.Bad fault = BadProof fault

-- there is no formula of a part
abbrev pub LacksPart : Induction → Part → CircuitFault → Type 0
LacksPart i part fault = (clauses : ClausesFault) × (fault ≡ NoFormula clauses) × IsCause (part_cause i part) clauses

-- the proof of this part has a fault, or there is no formula of it
abbrev pub IsFaultOf : Induction → Part → CircuitFault → Type 0
IsFaultOf i part fault =
    ((run : RunFault) × (fault ≡ proof_fault part run) × IsProofRun (part_clauses i part) (Err run)) ⊎ LacksPart i part fault

-- this is so of some part
abbrev pub IsPartFault : Induction → CircuitFault → Type 0
IsPartFault i fault = (part : Part) × IsFaultOf i part fault

-- there is an induction, and the run of the proof of this part has this fault
abbrev pub FailsPart : Option (List ℕ) → Option (List ℕ) → Part → RunFault → Type 0
FailsPart known known' part fault =
    (i : Induction) × IsInductionText known known' i × IsProofRun (part_clauses i part) (Err fault)

-- why there is no verdict: no induction, or no formula or a fault of a proof or of the write, after the induction was made
abbrev pub FailsInduction : Option (List ℕ) → Option (List ℕ) → CircuitFault → Type 0
FailsInduction known known' (InitialProof fault) = FailsPart known known' parts.Initial fault
FailsInduction known known' (StepProof fault) = FailsPart known known' parts.Step fault
FailsInduction known known' (BadProof fault) = FailsPart known known' parts.Bad fault
FailsInduction known known' (Write cause) = (i : Induction) × IsInductionText known known' i
FailsInduction known known' fault = FailsSafe known known' fault

-- a verdict on the three proofs, or why there is none
abbrev pub IsSafeRun : Option (List ℕ) → Option (List ℕ) → Result Verdict CircuitFault → Type 0
IsSafeRun known known' (Ok verdict) = (i : Induction) × IsInductionText known known' i × ShowsAll i verdict
IsSafeRun known known' (Err fault) = FailsInduction known known' fault

-- a beginning of the line of a verdict on the three proofs was appended
pub record BeginsSafe (known known' : Option (List ℕ)) (old new : Option (List ℕ)) : Type 0 where
  pub induction : Induction
  pub is : IsInductionText known known' induction
  pub verdict : Verdict
  pub shown : ShowsAll induction verdict
  pub begins : AppendsBeginning old new (claim_line Safe verdict)

-- ---- formulas

-- a beginning of a formula's text was appended, and the rest could not be
abbrev pub BeginsText : {W : Type 0} → (W → Option (List ℕ)) → W → W → List (List ℕ) → CircuitFault → Type 0
BeginsText contents old new formula (Formula cause) = AppendsBeginning (contents old) (contents new) (formula_text formula)
BeginsText contents old new formula fault = ⊥

-- there is no formula, and nothing was written; or a beginning of such a formula was
abbrev pub IsUnmade : {W : Type 0} → (List (List ℕ) → Type 0) → (CircuitFault → Type 0) → (W → Option (List ℕ)) → W → W
    → CircuitFault → Type 0
IsUnmade IsFormula Fails contents old new fault =
    (Fails fault × (new ≡ old))
    ⊎ ((formula : List (List ℕ)) × IsFormula formula × BeginsText contents old new formula fault)

-- the formula of a part was not written whole
abbrev pub IsPartUnmade : {W : Type 0} → Induction → Part → (W → Option (List ℕ)) → W → W → CircuitFault → Type 0
IsPartUnmade i part contents old new fault =
    (LacksPart i part fault × (new ≡ old)) ⊎ BeginsText contents old new (part_clauses i part) fault

-- the formulas of the parts before this one were written whole, its own was not, and of those behind it nothing was
abbrev pub HaveStopped : {W : Type 0} → Induction → (W → Option (List ℕ)) → W → W → W → W → W → W → CircuitFault → Part → Type 0
HaveStopped i contents initial initial' step step' bad bad' fault parts.Initial =
    IsPartUnmade i parts.Initial contents initial initial' fault × (step' ≡ step) × (bad' ≡ bad)
HaveStopped i contents initial initial' step step' bad bad' fault parts.Step =
    IsAppended (contents initial) (contents initial') (part_clauses i parts.Initial)
    × IsPartUnmade i parts.Step contents step step' fault × (bad' ≡ bad)
HaveStopped i contents initial initial' step step' bad bad' fault parts.Bad =
    IsAppended (contents initial) (contents initial') (part_clauses i parts.Initial)
    × IsAppended (contents step) (contents step') (part_clauses i parts.Step)
    × IsPartUnmade i parts.Bad contents bad bad' fault

-- there is no induction, and nothing was written; or the writes stopped at some part
abbrev pub AreUnmade : {W : Type 0} → Option (List ℕ) → Option (List ℕ) → (W → Option (List ℕ)) → W → W → W → W → W → W
    → CircuitFault → Type 0
AreUnmade known known' contents initial initial' step step' bad bad' fault =
    (FailsSafe known known' fault × (initial' ≡ initial) × (step' ≡ step) × (bad' ≡ bad))
    ⊎ ((i : Induction) × IsInductionText known known' i
    × (part : Part) × HaveStopped i contents initial initial' step step' bad bad' fault part)
