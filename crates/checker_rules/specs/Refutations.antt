-- Runs that show a formula to have no satisfying assignment: `unsat` is recorded, and the proof added no input clause.
--     RunsRefute      then no member is left of what held before the run
--     FormulasAreRefuted      on a new checker, no assignment satisfies the formula
use Rattle.std.specs.Prelude.{◌≡◌, ◌⊎◌, ℕ, Bool, true, false, List, Option, None}
use Rattle.sat_rules.specs.Clauses.{all_true}
use Rattle.checker_rules.specs.AddFormula.{add_clauses}
use Rattle.checker_rules.specs.Covers.{Covers}
use Rattle.checker_rules.specs.Outcome.{Cause}
use Rattle.checker_rules.specs.Run.{Runs}
use Rattle.checker_rules.specs.State.{State}
use Rattle.checker_rules.specs.Step.{Step}
use Rattle.checker_rules.specs.Steps.{new_state}

-- for any set of members that makes all that is stored true
abbrev pub RunsRefute : (X F : Type 0) → Type 0
RunsRefute X F = (next : X → (Step × X) ⊎ F) (p : (ℕ → Bool) → Bool) (s : State) (x : X)
    (ts : List Step) (answer : Option (Cause ⊎ F)) (r : State) →
    Covers p s → Runs next s x ts answer r → r.unsat ≡ true → r.inputs ≡ s.inputs → (a : ℕ → Bool) →
    p a ≡ false

-- for a formula whose clauses were all accepted
abbrev pub FormulasAreRefuted : (X F : Type 0) → Type 0
FormulasAreRefuted X F = (next : X → (Step × X) ⊎ F) (cs : List (List ℕ)) (x : X) (ts : List Step)
    (answer : Option (Cause ⊎ F)) (r : State) →
    (add_clauses new_state cs).refused ≡ None →
    Runs next (add_clauses new_state cs).after x ts answer r → r.unsat ≡ true →
    r.inputs ≡ (add_clauses new_state cs).after.inputs →
    (a : ℕ → Bool) → all_true a cs ≡ false
