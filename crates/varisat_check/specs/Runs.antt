-- Runs over a formula and a proof.
--     OnProof P r      P of what the checker answered to the proof
--     IsFailedRun r, IsRefusedRun r      the checker had failed before; the formula or the proof was rejected
--     AddedRun cnf proof r      the proof was run where the formula was added whole; what the verdict says of the clauses that were added
--     CheckRun cnf proof r      the run over both texts
--     IsUnwritten r, BeginsLine      the verdict's line was not written whole, and what was written then
--     RunTellsLie cnf r told      this is reported of the formula's header
use Rattle.std.specs.Prelude.{◌≡◌, ℕ, Bool, false, List, Option, None, Result, Ok, Err, IfOk}
use Rattle.sat_rules.specs.Clauses.{all_true}
use Rattle.sat_formula.specs.declared.counts.LyingHeader.{LyingHeader}
use Rattle.checker_rules.specs.Calls.{shown_inputs}
use Rattle.checker_rules.specs.State.{State}
use Rattle.checker_rules.specs.Steps.{new_state}
use Rattle.checker_rules.specs.Step.{Step}
use Rattle.checker_parts.specs.declared.error.CheckerError.{CheckerError}
use Rattle.checker_parts.specs.declared.error.CheckerError.TheVariants.{Failed}
use Rattle.checker_parts.specs.declared.error.DimacsError.{DimacsError}
use Rattle.varisat_checker.specs.ProofRun.{ProofAnswer}
use Rattle.varisat_checker.specs.TextRun.{TextAnswer}
use Rattle.sat_formula.specs.Lies.{IsLie}
use Rattle.whole_writes.specs.Beginnings.{AppendsBeginning}
use Rattle.varisat_check.specs.Verdicts.{shown_line, verdict_of}
use Rattle.varisat_check.specs.declared.fault.RunFault.{RunFault}
use Rattle.varisat_check.specs.declared.fault.RunFault.TheVariants.{Formula, Proof, Write}
use Rattle.varisat_check.specs.declared.verdict.Verdict.{Verdict}
use Rattle.varisat_check.specs.declared.verdict.Verdict.TheVariants.{Unsatisfiable}

-- the checker answered Ok where there is a verdict, written or not
abbrev pub OnProof : (Result (Unit {0}) CheckerError → Type 0) → Result Verdict RunFault → Type 0
OnProof P (Ok verdict) = P (Ok tt)
OnProof P (Err (Write cause)) = P (Ok tt)
OnProof P (Err (Proof e)) = P (Err e)
OnProof P (Err (Formula e)) = ⊥

-- the answer of a checker that had failed before the run
abbrev pub IsFailedRun : Result Verdict RunFault → Type 0
IsFailedRun r = r ≡ Err (Proof Failed)

-- the formula or the proof was rejected
abbrev pub IsRefusedRun : Result Verdict RunFault → Type 0
IsRefusedRun (Ok verdict) = ⊥
IsRefusedRun (Err (Write cause)) = ⊥
IsRefusedRun (Err (Proof e)) = Unit {0}
IsRefusedRun (Err (Formula e)) = Unit {0}

-- a new checker took all clauses of the formula's text, and then ran the proof; the verdict is by what it recorded, and where it is
-- `Unsatisfiable`, no assignment makes these clauses true
pub record AddedRun (cnf proof : Option (List ℕ)) (r : Result Verdict RunFault) : Type 0 where
  pub clauses : List (List ℕ)
  pub formula : State
  pub adds : TextAnswer {A = Unit {0}} cnf new_state clauses (Ok tt) formula
  pub text : List ℕ
  pub steps : List Step
  pub left : State
  pub runs : OnProof (λ answer. ProofAnswer proof formula text steps answer left) r
  pub verdict : IfOk r (λ v. v ≡ verdict_of (shown_inputs formula) left)
  pub refutes : r ≡ Ok Unsatisfiable → (a : ℕ → Bool) → all_true a clauses ≡ false

-- a new checker did not take all clauses of the formula's text
abbrev pub RefusedText : Option (List ℕ) → DimacsError → Type 0
RefusedText cnf e = (clauses : List (List ℕ)) × (left : State)
    × TextAnswer {A = Unit {0}} cnf new_state clauses (Err e) left

-- a formula that was not added whole is answered, and else the proof's run
abbrev pub CheckRun : Option (List ℕ) → Option (List ℕ) → Result Verdict RunFault → Type 0
CheckRun cnf proof (Ok verdict) = AddedRun cnf proof (Ok verdict)
CheckRun cnf proof (Err (Write cause)) = AddedRun cnf proof (Err (Write cause))
CheckRun cnf proof (Err (Proof e)) = AddedRun cnf proof (Err (Proof e))
CheckRun cnf proof (Err (Formula e)) = RefusedText cnf e

-- there is a verdict, and what it is to write was not written whole
abbrev pub IsUnwritten : {A : Type 0} → Result A RunFault → Type 0
IsUnwritten (Ok given) = ⊥
IsUnwritten (Err (Write cause)) = Unit {0}
IsUnwritten (Err (Proof e)) = ⊥
IsUnwritten (Err (Formula e)) = ⊥

-- a new checker took all clauses of the formula's text, and then accepted the proof;
-- an output grew by a beginning of the line of the verdict by what it recorded
pub record BeginsLine (cnf proof old new : Option (List ℕ)) : Type 0 where
  pub clauses : List (List ℕ)
  pub formula : State
  pub adds : TextAnswer {A = Unit {0}} cnf new_state clauses (Ok tt) formula
  pub text : List ℕ
  pub steps : List Step
  pub left : State
  pub runs : ProofAnswer {A = Unit {0}} proof formula text steps (Ok tt) left
  pub begins : AppendsBeginning old new (shown_line (verdict_of (shown_inputs formula) left))

-- the mismatch of the header, if the formula was added whole; else nothing
abbrev pub RunTellsLie : Option (List ℕ) → Result Verdict RunFault → Option LyingHeader → Type 0
RunTellsLie cnf (Ok verdict) told = IsLie cnf told
RunTellsLie cnf (Err (Write cause)) told = IsLie cnf told
RunTellsLie cnf (Err (Proof e)) told = IsLie cnf told
RunTellsLie cnf (Err (Formula e)) told = told ≡ None
