-- Runs over a formula and a proof in lines of hints. `ids` is the encoding of ids in binary lines, where it is given.
--     AcceptsHints, RefusesHints, ChecksHints      all lines were accepted;  one was rejected;  the answer of checking them over a formula
--     IsUnread cause fault      what is answered where a read failed
--     CheckRun ids cnf lrat r      the run over both texts
--     RunTellsLie cnf r told      this is reported of the formula's header
use Rattle.std.specs.Prelude.{◌≡◌, ◌≢◌, ℕ, Bool, false, List, length, Option, None, Result, Ok, Err}
use Rattle.std.specs.IoError.{error_kind}
use Rattle.std.specs.Option.{option_map}
use Rattle.std.specs.declared.io.Error.{Error}
use Rattle.std.specs.declared.io.ErrorKind.TheVariants.{OutOfMemory}
use Rattle.sat_rules.specs.Clauses.{all_true}
use Rattle.sat_rules.specs.HintLines.{listing}
use Rattle.sat_formula.specs.declared.counts.LyingHeader.{LyingHeader}
use Rattle.sat_formula.specs.Lines.{outcome_of}
use Rattle.sat_formula.specs.Outcome.{Ended}
use Rattle.sat_formula.specs.Whole.{FailsAfter, IsOutcome}
use Rattle.lrat_binary.specs.declared.ids.Ids.{Ids}
use Rattle.lrat_binary.specs.declared.ids.LratForm.{LratForm}
use Rattle.lrat_binary.specs.TakenLines.{IsToldForm}
use Rattle.hint_checker.specs.declared.fault.HintFault.{HintFault}
use Rattle.hint_checker.specs.declared.fault.HintFault.TheVariants as hints
use Rattle.hint_checker.specs.declared.fault.HintTextFault.TheVariants.{Refused}
use Rattle.sat_formula.specs.Lies.{IsLie}
use Rattle.verdicts.specs.Verdicts.{verdict_of}
use Rattle.hint_check.specs.Proofs.{AcceptsProof, IsProofRefusal}
use Rattle.hint_check.specs.declared.fault.RunFault.{RunFault}
use Rattle.hint_check.specs.declared.fault.RunFault.TheVariants.{Formula, Hints, Read}
use Rattle.verdicts.specs.declared.verdict.Verdict.{Verdict}
use Rattle.verdicts.specs.declared.verdict.Verdict.TheVariants.{Verified}

-- all lines of a proof are accepted after a formula's clauses; the verdict says whether one adds the empty clause, and then no assignment satisfies the formula
pub record AcceptsHints (ids : Option Ids) (lrat : Option (List ℕ)) (formula : List (List ℕ))
    (verdict : Verdict) : Type 0 where
  pub form : LratForm
  pub told : IsToldForm ids (length formula) lrat form
  pub refuted : Bool
  pub accepts : AcceptsProof form lrat (listing formula) refuted
  pub verdict_is : verdict ≡ verdict_of refuted
  pub refutes : verdict ≡ Verified → (a : ℕ → Bool) → all_true a formula ≡ false

-- a line of the proof is the first that is not accepted, or there was no memory
pub record RefusesHints (ids : Option Ids) (lrat : Option (List ℕ)) (formula : List (List ℕ))
    (fault : HintFault) : Type 0 where
  pub form : LratForm
  pub told : IsToldForm ids (length formula) lrat form
  pub refusal : IsProofRefusal form lrat (listing formula) (Refused fault)

-- all lines are accepted, or the first that is not is named; a failed read was not out of memory
abbrev pub ChecksHints : Option Ids → Option (List ℕ) → List (List ℕ) → Result Verdict RunFault →
    Type 0
ChecksHints ids lrat formula (Ok verdict) = AcceptsHints ids lrat formula verdict
ChecksHints ids lrat formula (Err (Hints fault)) = RefusesHints ids lrat formula fault
ChecksHints ids lrat formula (Err (Read cause)) = error_kind cause ≢ OutOfMemory
ChecksHints ids lrat formula (Err (Formula fault)) = ⊥

-- a failed read was out of memory, or its error is answered
abbrev pub IsUnread : Error → RunFault → Type 0
IsUnread cause (Hints fault) = (error_kind cause ≡ OutOfMemory) × (fault ≡ hints.OutOfMemory)
IsUnread cause (Read error) = (error_kind cause ≢ OutOfMemory) × (error ≡ cause)
IsUnread cause (Formula fault) = ⊥

-- the formula's text was read whole, and the proof was checked over its clauses with this answer
pub record ReadAndChecked (ids : Option Ids) (cnf lrat : Option (List ℕ))
    (r : Result Verdict RunFault) : Type 0 where
  pub clauses : List (List ℕ)
  pub whole : IsOutcome (option_map outcome_of cnf) (clauses, Ended)
  pub checks : ChecksHints ids lrat clauses r

-- a formula that was not read whole is answered, and else the check
abbrev pub CheckRun : Option Ids → Option (List ℕ) → Option (List ℕ) → Result Verdict RunFault →
    Type 0
CheckRun ids cnf lrat (Err (Formula fault)) = (clauses : List (List ℕ))
    × FailsAfter (option_map outcome_of cnf) clauses fault
CheckRun ids cnf lrat r = ReadAndChecked ids cnf lrat r

-- the mismatch of the header, if the formula was read whole; else nothing
abbrev pub RunTellsLie : Option (List ℕ) → Result Verdict RunFault → Option LyingHeader → Type 0
RunTellsLie cnf (Err (Formula fault)) told = told ≡ None
RunTellsLie cnf r told = IsLie cnf told
