-- How many steps are delivered to a processor.
--     Grows took shown      each step makes what is shown longer by one byte
--     IsCount known clauses n      this many steps are delivered of these clauses and a proof of these bytes
--     CountsAgree      there is one count of the same clauses and bytes
--     IsRefused known clauses e      these clauses, or after them the proof of these bytes, are rejected so
use Rattle.std.specs.Prelude.{◌≡◌, ◌⊎◌, ◌+◌, ℕ, List, length, map, Option, Some, None, Err}
use Rattle.checker_rules.specs.AddFormula.{add_clauses}
use Rattle.checker_rules.specs.CallEmissions.{EmitsCalls}
use Rattle.checker_rules.specs.Calls.{adds}
use Rattle.checker_rules.specs.CheckedSteps.{NamedStep}
use Rattle.checker_rules.specs.RunEmissions.{EmitsRun}
use Rattle.checker_rules.specs.State.{State}
use Rattle.checker_rules.specs.Step.{Step}
use Rattle.checker_rules.specs.Steps.{new_state}
use Rattle.proof_bytes.specs.TextRuns.{RunsOver}
use Rattle.proof_bytes.specs.Texts.{next_of, start_of}
use Rattle.checker_parts.specs.Answers.{AnswersStep}
use Rattle.checker_parts.specs.declared.error.CheckerError.{CheckerError}
use Rattle.varisat_checker.specs.ProofRun.{ProofAnswer}

-- each step that is taken makes what is shown longer by one byte
abbrev pub Grows : {B : Type 0} → (took : B → NamedStep → B → Type 0) (shown : B → List ℕ) → Type 0
Grows {B = B} took shown = (old : B) (e : NamedStep) (new : B) → took old e new →
    length (shown new) ≡ length (shown old) + 1

-- the state after the clauses, in a new checker
abbrev pub filled : List (List ℕ) → State
filled clauses = (add_clauses new_state clauses).after

-- a new checker accepts all the clauses, and then the whole proof up to its `End`; it delivers this many steps, of the clauses and of the proof
pub record IsCount (known : Option (List ℕ)) (clauses : List (List ℕ)) (n : ℕ) : Type 0 where
  pub accepted : (add_clauses new_state clauses).refused ≡ None
  pub of_clauses : List NamedStep
  pub clauses_emit : EmitsCalls new_state (map adds clauses) of_clauses
  pub steps : List Step
  pub last : State
  pub run : RunsOver known (filled clauses) steps None last
  pub of_proof : List NamedStep
  pub proof_emits : EmitsRun next_of (filled clauses) (start_of run.text) steps of_proof
  pub count : n ≡ length of_clauses + length of_proof

-- which propagations a step lists may be left open, but not how many steps are delivered
abbrev pub CountsAgree : Type 0
CountsAgree = (text : List ℕ) (clauses : List (List ℕ)) (n m : ℕ) → IsCount (Some text) clauses n →
    IsCount (Some text) clauses m → n ≡ m

-- a new checker rejects the clauses so
abbrev pub RefusesClauses : List (List ℕ) → CheckerError → Type 0
RefusesClauses clauses e = (last : State)
    × AnswersStep {A = Unit {0}} (Err e) (add_clauses new_state clauses) last

-- a new checker accepts all the clauses, and then rejects the proof so
abbrev pub RefusesProof : Option (List ℕ) → List (List ℕ) → CheckerError → Type 0
RefusesProof known clauses e =
    ((add_clauses new_state clauses).refused ≡ None) × (text : List ℕ) × (steps : List Step)
    × (last : State) × ProofAnswer {A = Unit {0}} known (filled clauses) text steps (Err e) last

-- either is rejected so; nothing is said where memory was refused or a processor answered a fault
abbrev pub IsRefused : Option (List ℕ) → List (List ℕ) → CheckerError → Type 0
IsRefused known clauses e = RefusesClauses clauses e ⊎ RefusesProof known clauses e
