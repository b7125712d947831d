-- Clauses added one after the other, and what was delivered on of them.
--     EmitsAdded s clauses es      what those of them emit that are accepted
--     AddedSoFar s clauses u      they were all accepted, and led to u
--     HasAdded .. s clauses u old new      and what they emit was delivered on
--     HasRejected .. s clauses e u old new      all but the last were accepted, and the last has this error
use Rattle.std.specs.Prelude.{◌≡◌, ℕ, false, List, map, Err}
use Rattle.checker_rules.specs.AddFormula.{add_clauses, added}
use Rattle.checker_rules.specs.CallEmissions.{EmitsCalls}
use Rattle.checker_rules.specs.Calls.{adds}
use Rattle.checker_rules.specs.CheckedSteps.{NamedStep}
use Rattle.checker_rules.specs.Outcome.{accept}
use Rattle.checker_rules.specs.State.{State}
use Rattle.checker_parts.specs.Answers.{AnswersStep}
use Rattle.checker_parts.specs.declared.error.CheckerError.{CheckerError}
use Rattle.checker_steps.specs.Delivered.{Delivered, DeliveredWhole, Listeners, Listens, ListensImage}

-- what the clauses emit that are accepted of these
abbrev pub EmitsAdded : State → List (List ℕ) → List NamedStep → Type 0
EmitsAdded s clauses = EmitsCalls s (map adds (added s clauses))

-- all of them were accepted, and the checker continues
pub record AddedSoFar (s : State) (clauses : List (List ℕ)) (u : State) : Type 0 where
  pub running : u.failed ≡ false
  pub accepted : add_clauses s clauses ≡ accept u

-- and what they emit was delivered on
pub record HasAdded {P T : Type 0} (listens : Listens P) (listens_image : ListensImage T)
    (s : State) (clauses : List (List ℕ)) (u : State) (old new : Listeners P T) : Type 0 where
  pub so_far : AddedSoFar s clauses u
  pub delivered : DeliveredWhole (EmitsAdded s clauses) listens listens_image old new

-- all but the last were accepted; it was rejected, or a listener had a fault at it
pub record HasRejected {P T : Type 0} (listens : Listens P) (listens_image : ListensImage T)
    (s : State) (clauses : List (List ℕ)) (e : CheckerError) (u : State)
    (old new : Listeners P T) : Type 0 where
  pub answer : AnswersStep {A = Unit {0}} (Err e) (add_clauses s clauses) u
  pub delivered : Delivered {A = Unit {0}} (Err e) (EmitsAdded s clauses) listens listens_image old
      new
