-- Runs over a formula and a proof whose checked steps a processor writes.
--     filled formula      the state of a new checker with these clauses
--     LratRun took known formula old v new      the whole run, and what the processor took of it
--     RefusesRun known formula fault      what the run was rejected for
--     IsRefusedRun r      the formula or the proof was rejected
--     StopsInTurn, StopsWriting      two writes in turn of which one failed, and the run that made them
use Rattle.std.specs.Prelude.{◌≡◌, ◌⊎◌, ℕ, List, ◌++◌, map, take, Option, None, Result, Ok, Err}
use Rattle.std.specs.Io.KnownBytes.{Appends}
use Rattle.checker_rules.specs.AddFormula.{add_clauses}
use Rattle.checker_rules.specs.CallEmissions.{EmitsCalls, empty_machine}
use Rattle.checker_rules.specs.Calls.{adds, shown_inputs}
use Rattle.checker_rules.specs.CheckedSteps.{NamedStep, hint_steps}
use Rattle.checker_rules.specs.FormulaEmissions.{input_steps}
use Rattle.checker_rules.specs.HintRun.{IsRun}
use Rattle.checker_rules.specs.Ran.{Ran}
use Rattle.checker_rules.specs.RunEmissions.{EmitsRun}
use Rattle.checker_rules.specs.State.{State}
use Rattle.checker_rules.specs.Step.{Step}
use Rattle.checker_rules.specs.Steps.{new_state}
use Rattle.proof_bytes.specs.Texts.{next_of, start_of}
use Rattle.checker_parts.specs.Answers.{AnswersStep}
use Rattle.checker_parts.specs.declared.error.CheckerError.{CheckerError}
use Rattle.checker_parts.specs.declared.error.DimacsError.TheVariants as texts
use Rattle.varisat_checker.specs.ProofRun.{ProofAnswer}
use Rattle.whole_writes.specs.Beginnings.{AppendsBeginning}
use Rattle.varisat_check.specs.Verdicts.{shown_line, verdict_of}
use Rattle.varisat_check.specs.declared.fault.RunFault.{RunFault}
use Rattle.varisat_check.specs.declared.fault.RunFault.TheVariants.{Formula, Proof, Write}
use Rattle.varisat_check.specs.declared.verdict.Verdict.{Verdict}

-- the state of a new checker with these clauses
abbrev pub filled : List (List ℕ) → State
filled formula = (add_clauses new_state formula).after

-- a new checker accepts the formula and then the whole proof up to its `End`; the processor took all steps that both deliver;
-- these begin with the formula's clauses as input clauses, or a beginning of them, and are a run of the hint machine; the verdict is by what was recorded
pub record LratRun {P : Type 0} (took : P → NamedStep → P → Type 0) (known : Option (List ℕ))
    (formula : List (List ℕ)) (old : P) (verdict : Verdict) (new : P) : Type 0 where
  pub accepted : (add_clauses new_state formula).refused ≡ None
  pub of_formula : List NamedStep
  pub formula_emits : EmitsCalls new_state (map adds formula) of_formula
  pub text : List ℕ
  pub steps : List Step
  pub left : State
  pub run : ProofAnswer {A = Unit {0}} known (filled formula) text steps (Ok tt) left
  pub of_proof : List NamedStep
  pub proof_emits : EmitsRun next_of (filled formula) (start_of text) steps of_proof
  pub ran : Ran took old (of_formula ++ of_proof) new
  pub clauses : ℕ
  pub inputs_first : hint_steps of_formula ≡ input_steps 0 (take clauses formula)
  pub is_run : IsRun empty_machine (hint_steps (of_formula ++ of_proof))
  pub verdict_is : verdict ≡ verdict_of (shown_inputs (filled formula)) left

-- a new checker rejects the clauses so
abbrev pub RefusesFormula : List (List ℕ) → CheckerError → Type 0
RefusesFormula formula e = (left : State)
    × AnswersStep {A = Unit {0}} (Err e) (add_clauses new_state formula) left

-- a new checker accepts the formula, and then rejects the proof so
abbrev pub RefusesProof : Option (List ℕ) → List (List ℕ) → CheckerError → Type 0
RefusesProof known formula e =
    ((add_clauses new_state formula).refused ≡ None) × (text : List ℕ) × (steps : List Step)
    × (left : State) × ProofAnswer {A = Unit {0}} known (filled formula) text steps (Err e) left

-- what the run was rejected for; nothing is said of a write, nor where memory was refused or a processor answered a fault
abbrev pub RefusesRun : Option (List ℕ) → List (List ℕ) → RunFault → Type 0
RefusesRun known formula (Formula (texts.Checker e)) = RefusesFormula formula e
RefusesRun known formula (Formula (texts.Read cause)) = ⊥
RefusesRun known formula (Formula (texts.Malformed line kind)) = ⊥
RefusesRun known formula (Proof e) = RefusesProof known formula e
RefusesRun known formula (Write cause) = Unit {0}

-- the formula or the proof was rejected
abbrev pub IsRefusedRun : {A : Type 0} → Result A RunFault → Type 0
IsRefusedRun (Ok given) = ⊥
IsRefusedRun (Err (Write cause)) = ⊥
IsRefusedRun (Err (Proof e)) = Unit {0}
IsRefusedRun (Err (Formula e)) = Unit {0}

-- of a first text a beginning was appended, and nothing of the second one; or all of the first one and a beginning of the second
abbrev pub StopsInTurn : (old new : Option (List ℕ)) → List ℕ →
    (later_old later_new : Option (List ℕ)) → List ℕ → Type 0
StopsInTurn old new first later_old later_new second =
    (AppendsBeginning old new first × (later_new ≡ later_old))
    ⊎ (Appends old new first × AppendsBeginning later_old later_new second)

-- the whole run was accepted; what the processor shows was to be written first, and then the verdict's line
pub record StopsWriting {P : Type 0} (took : P → NamedStep → P → Type 0) (shown : P → List ℕ)
    (known : Option (List ℕ)) (formula : List (List ℕ)) (writer : P)
    (old new later_old later_new : Option (List ℕ)) : Type 0 where
  pub verdict : Verdict
  pub after : P
  pub run : LratRun took known formula writer verdict after
  pub stops : StopsInTurn old new (shown after) later_old later_new (shown_line verdict)
