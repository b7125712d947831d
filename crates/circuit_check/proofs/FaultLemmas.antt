-- Faults that a run hands on, and what stands after the verdict on a proof.
use Rattle.std.proofs.Common.{◌≡◌, inl, inr, ℕ, true, List, Option, Some, None, Result, Ok, Err, refl, ap, sym, subst}
use Rattle.std.specs.Prelude.{IfOk}
use Rattle.refutation_rules.specs.Cubes.{IsRefuted}
use Rattle.circuit_clauses.specs.Causes.{IsCause, fits_part, part_cause, unless}
use Rattle.circuit_clauses.specs.Machines.{part_clauses}
use Rattle.circuit_clauses.specs.declared.fault.ClausesFault.{ClausesFault}
use Rattle.circuit_clauses.specs.declared.fault.ClausesFault.TheVariants.{OutOfMemory, TooLarge}
use Rattle.circuit_clauses.specs.declared.induction.Induction.{Induction}
use Rattle.circuit_clauses.specs.declared.induction.Part.{Part}
use Rattle.circuit_clauses.specs.declared.induction.Part.TheVariants as parts
use Rattle.circuit_names.specs.declared.pairing.Pairing.{Pairing}
use Rattle.drat_check.specs.Runs.{IsProofRun}
use Rattle.drat_check.specs.declared.fault.RunFault.{RunFault}
use Rattle.verdicts.specs.declared.verdict.Verdict.{Verdict}
use Rattle.verdicts.specs.declared.verdict.Verdict.TheVariants.{Verified, NotVerified}
use Rattle.circuit_check.specs.Claims.{IsInductionText, IsNeverFormula, IsSameFormula, RefutesAll}
use Rattle.circuit_check.specs.Reads.{FailsBoth, FailsGates, FailsNever, FailsPaired, FailsRead, FailsSafe, FailsSame}
use Rattle.circuit_check.specs.Runs.{AreUnmade, FailsClaim, FailsInduction, HaveStopped, IsClaimRun, IsPartFault, IsSafeRun, IsShown, IsUnwritten, IsWritten, ShowsAll, proof_fault}
use Rattle.circuit_check.specs.declared.fault.CircuitFault.{CircuitFault}
use Rattle.circuit_check.specs.declared.fault.CircuitFault.TheVariants.{Unread, OtherUnread, Sequential, Unpaired, NoFormula, Answer, Proof, InitialProof, StepProof, BadProof, Formula, Write}

pub both_fail : (known known' : Option (List ℕ)) (fault : CircuitFault) → FailsRead known known' fault → FailsBoth known known' fault
both_fail known known' (Unread f) h = h
both_fail known known' (OtherUnread f) h = h
both_fail known known' Sequential h = absurd h
both_fail known known' (NoFormula f) h = absurd h
both_fail known known' (Unpaired f) h = absurd h
both_fail known known' (Answer f) h = absurd h
both_fail known known' (Proof f) h = absurd h
both_fail known known' (InitialProof f) h = absurd h
both_fail known known' (StepProof f) h = absurd h
both_fail known known' (BadProof f) h = absurd h
both_fail known known' (Formula f) h = absurd h
both_fail known known' (Write f) h = absurd h

pub paired_fail : (pairing : Pairing) (text text' : List ℕ) (fault : CircuitFault) → FailsBoth (Some text) (Some text') fault → FailsPaired pairing text text' fault
paired_fail pairing text text' (Unread f) h = h
paired_fail pairing text text' (OtherUnread f) h = h
paired_fail pairing text text' Sequential h = h
paired_fail pairing text text' (Unpaired f) h = absurd h
paired_fail pairing text text' (NoFormula f) h = absurd h
paired_fail pairing text text' (Answer f) h = absurd h
paired_fail pairing text text' (Proof f) h = absurd h
paired_fail pairing text text' (InitialProof f) h = absurd h
paired_fail pairing text text' (StepProof f) h = absurd h
paired_fail pairing text text' (BadProof f) h = absurd h
paired_fail pairing text text' (Formula f) h = absurd h
paired_fail pairing text text' (Write f) h = absurd h

pub never_fails : (known : Option (List ℕ)) (fault : CircuitFault) → FailsGates known fault → FailsNever known fault
never_fails known (Unread f) h = h
never_fails known (OtherUnread f) h = absurd h
never_fails known Sequential h = h
never_fails known (NoFormula f) h = absurd h
never_fails known (Unpaired f) h = absurd h
never_fails known (Answer f) h = absurd h
never_fails known (Proof f) h = absurd h
never_fails known (InitialProof f) h = absurd h
never_fails known (StepProof f) h = absurd h
never_fails known (BadProof f) h = absurd h
never_fails known (Formula f) h = absurd h
never_fails known (Write f) h = absurd h

pub same_fails : (pairing : Pairing) (text text' : List ℕ) (fault : CircuitFault) → FailsPaired pairing text text' fault → FailsSame pairing text text' fault
same_fails pairing text text' (Unread f) h = h
same_fails pairing text text' (OtherUnread f) h = h
same_fails pairing text text' Sequential h = h
same_fails pairing text text' (NoFormula f) h = absurd h
same_fails pairing text text' (Unpaired f) h = h
same_fails pairing text text' (Answer f) h = absurd h
same_fails pairing text text' (Proof f) h = absurd h
same_fails pairing text text' (InitialProof f) h = absurd h
same_fails pairing text text' (StepProof f) h = absurd h
same_fails pairing text text' (BadProof f) h = absurd h
same_fails pairing text text' (Formula f) h = absurd h
same_fails pairing text text' (Write f) h = absurd h

pub safe_fails : (known known' : Option (List ℕ)) (fault : CircuitFault) → FailsRead known known' fault → FailsSafe known known' fault
safe_fails known known' (Unread f) h = h
safe_fails known known' (OtherUnread f) h = h
safe_fails known known' Sequential h = absurd h
safe_fails known known' (NoFormula f) h = absurd h
safe_fails known known' (Unpaired f) h = absurd h
safe_fails known known' (Answer f) h = absurd h
safe_fails known known' (Proof f) h = absurd h
safe_fails known known' (InitialProof f) h = absurd h
safe_fails known known' (StepProof f) h = absurd h
safe_fails known known' (BadProof f) h = absurd h
safe_fails known known' (Formula f) h = absurd h
safe_fails known known' (Write f) h = absurd h

-- ---- runs

pub never_run : (known : Option (List ℕ)) (fault : CircuitFault) → FailsNever known fault → FailsClaim (IsNeverFormula known) (FailsNever known) fault × (IsUnwritten (Err fault) → ⊥)
never_run known (Unread f) h = (h, λ u. u)
never_run known (OtherUnread f) h = absurd h
never_run known Sequential h = (h, λ u. u)
never_run known (NoFormula f) h = (h, λ u. u)
never_run known (Unpaired f) h = absurd h
never_run known (Answer f) h = absurd h
never_run known (Proof f) h = absurd h
never_run known (InitialProof f) h = absurd h
never_run known (StepProof f) h = absurd h
never_run known (BadProof f) h = absurd h
never_run known (Formula f) h = absurd h
never_run known (Write f) h = absurd h

pub same_run : (pairing : Pairing) (text text' : List ℕ) (fault : CircuitFault) → FailsSame pairing text text' fault →
    FailsClaim (IsSameFormula pairing text text') (FailsSame pairing text text') fault × (IsUnwritten (Err fault) → ⊥)
same_run pairing text text' (Unread f) h = (h, λ u. u)
same_run pairing text text' (OtherUnread f) h = (h, λ u. u)
same_run pairing text text' Sequential h = (h, λ u. u)
same_run pairing text text' (NoFormula f) h = (h, λ u. u)
same_run pairing text text' (Unpaired f) h = (h, λ u. u)
same_run pairing text text' (Answer f) h = absurd h
same_run pairing text text' (Proof f) h = absurd h
same_run pairing text text' (InitialProof f) h = absurd h
same_run pairing text text' (StepProof f) h = absurd h
same_run pairing text text' (BadProof f) h = absurd h
same_run pairing text text' (Formula f) h = absurd h
same_run pairing text text' (Write f) h = absurd h

pub safe_run : (known known' : Option (List ℕ)) (fault : CircuitFault) → FailsSafe known known' fault → FailsInduction known known' fault × (IsUnwritten (Err fault) → ⊥)
safe_run known known' (Unread f) h = (h, λ u. u)
safe_run known known' (OtherUnread f) h = (h, λ u. u)
safe_run known known' Sequential h = absurd h
safe_run known known' (NoFormula f) h = (h, λ u. u)
safe_run known known' (Unpaired f) h = absurd h
safe_run known known' (Answer f) h = absurd h
safe_run known known' (Proof f) h = absurd h
safe_run known known' (InitialProof f) h = absurd h
safe_run known known' (StepProof f) h = absurd h
safe_run known known' (BadProof f) h = absurd h
safe_run known known' (Formula f) h = absurd h
safe_run known known' (Write f) h = absurd h

-- a fault of a part, once there is an induction
part_fails : (known known' : Option (List ℕ)) (i : Induction) (part : Part) (run : RunFault) → IsInductionText known known' i →
    IsProofRun (part_clauses i part) (Err run) →
    FailsInduction known known' (proof_fault part run) × (IsUnwritten (Err (proof_fault part run)) → ⊥)
part_fails known known' i parts.Initial run h r = ((i, h, r), λ u. u)
part_fails known known' i parts.Step run h r = ((i, h, r), λ u. u)
part_fails known known' i parts.Bad run h r = ((i, h, r), λ u. u)

-- where the next step has variables, a part lacks its formula only where memory ran out
part_fits : (i : Induction) (part : Part) → fits_part i parts.Step ≡ true → part_cause i part ≡ None
part_fits i parts.Initial h = refl
part_fits i parts.Step h = ap (λ fits. unless fits TooLarge None) h
part_fits i parts.Bad h = refl

memory_alone : (cause : Option ClausesFault) (fault : ClausesFault) → cause ≡ None → IsCause cause fault → fault ≡ OutOfMemory
memory_alone cause fault e (inl is) = absurd cc
memory_alone cause fault e (inr memory) = memory.1

pub parts_fail : (known known' : Option (List ℕ)) (i : Induction) (fault : CircuitFault) → IsInductionText known known' i → IsPartFault i fault →
    FailsInduction known known' fault × (IsUnwritten (Err fault) → ⊥)
parts_fail known known' i fault h (part, inl (run, e, r)) =
    subst (λ (f : CircuitFault). FailsInduction known known' f × (IsUnwritten (Err f) → ⊥)) (sym e) (part_fails known known' i part run h r)
parts_fail known known' i fault h (part, inr (clauses, e, cause)) =
    subst (λ (f : CircuitFault). FailsInduction known known' f × (IsUnwritten (Err f) → ⊥)) (sym e) (
      record {
        circuit = h.circuit;
        says = h.says;
        holds = record {
          circuit = h.circuit';
          says = h.says';
          holds = inr (h.none, memory_alone (part_cause i part) clauses (part_fits i part h.fits) cause);
        };
      },
      λ u. u,
    )

-- ---- verdicts

pub shown_by : (formula : List (List ℕ)) (v : Verdict) → (v ≡ Verified → IsRefuted formula) → IsShown formula v
shown_by formula Verified h = h refl
shown_by formula NotVerified h = tt

pub all_by : (i : Induction) (v : Verdict) → (v ≡ Verified → RefutesAll i) → ShowsAll i v
all_by i Verified h = h refl
all_by i NotVerified h = tt

pub claim_written : (IsFormula : List (List ℕ) → Type 0) (Fails : CircuitFault → Type 0) (formula : List (List ℕ)) (v : Verdict) (r : Result Verdict CircuitFault) →
    IsFormula formula → IsShown formula v → IfOk r (λ w. w ≡ v) → IsWritten r → IsClaimRun IsFormula Fails r
claim_written IsFormula Fails formula v (Ok w) is shown same written = (formula, is, subst (IsShown formula) (sym same) shown)
claim_written IsFormula Fails formula v (Err (Unread f)) is shown same written = absurd written
claim_written IsFormula Fails formula v (Err (OtherUnread f)) is shown same written = absurd written
claim_written IsFormula Fails formula v (Err Sequential) is shown same written = absurd written
claim_written IsFormula Fails formula v (Err (NoFormula f)) is shown same written = absurd written
claim_written IsFormula Fails formula v (Err (Unpaired f)) is shown same written = absurd written
claim_written IsFormula Fails formula v (Err (Answer f)) is shown same written = absurd written
claim_written IsFormula Fails formula v (Err (Proof f)) is shown same written = absurd written
claim_written IsFormula Fails formula v (Err (InitialProof f)) is shown same written = absurd written
claim_written IsFormula Fails formula v (Err (StepProof f)) is shown same written = absurd written
claim_written IsFormula Fails formula v (Err (BadProof f)) is shown same written = absurd written
claim_written IsFormula Fails formula v (Err (Formula f)) is shown same written = absurd written
claim_written IsFormula Fails formula v (Err (Write f)) is shown same written = (formula, is)

pub safe_written : (known known' : Option (List ℕ)) (i : Induction) (v : Verdict) (r : Result Verdict CircuitFault) →
    IsInductionText known known' i → ShowsAll i v → IfOk r (λ w. w ≡ v) → IsWritten r → IsSafeRun known known' r
safe_written known known' i v (Ok w) is shown same written = (i, is, subst (ShowsAll i) (sym same) shown)
safe_written known known' i v (Err (Unread f)) is shown same written = absurd written
safe_written known known' i v (Err (OtherUnread f)) is shown same written = absurd written
safe_written known known' i v (Err Sequential) is shown same written = absurd written
safe_written known known' i v (Err (NoFormula f)) is shown same written = absurd written
safe_written known known' i v (Err (Unpaired f)) is shown same written = absurd written
safe_written known known' i v (Err (Answer f)) is shown same written = absurd written
safe_written known known' i v (Err (Proof f)) is shown same written = absurd written
safe_written known known' i v (Err (InitialProof f)) is shown same written = absurd written
safe_written known known' i v (Err (StepProof f)) is shown same written = absurd written
safe_written known known' i v (Err (BadProof f)) is shown same written = absurd written
safe_written known known' i v (Err (Formula f)) is shown same written = absurd written
safe_written known known' i v (Err (Write f)) is shown same written = (i, is)

-- ---- formulas

-- the writes of three formulas stopped at a part
pub stopped_at : {W : Type 0} (known known' : Option (List ℕ)) (contents : W → Option (List ℕ)) (initial initial' step step' bad bad' : W) (i : Induction) (fault : CircuitFault)
    (part : Part) → IsInductionText known known' i → HaveStopped i contents initial initial' step step' bad bad' fault part →
    AreUnmade known known' contents initial initial' step step' bad bad' fault
stopped_at known known' contents initial initial' step step' bad bad' i fault part h stopped = inr (i, h, part, stopped)
