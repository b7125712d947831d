-- The unsatisfiable side: whoever makes all that is stored true keeps doing so.
--     Covers p s      the members p do
--     StepsCover      and continue doing so
use Rattle.std.specs.Prelude.{◌≡◌, ℕ, Bool, true, not, ◌&&◌, Option, Some, None}
use Rattle.checker_rules.specs.Headline.{changed}
use Rattle.checker_rules.specs.Outcome.{Cause}
use Rattle.checker_rules.specs.State.{State, stored_true, units_true}
use Rattle.checker_rules.specs.Step.{Step}
use Rattle.checker_rules.specs.Steps.{step}

-- every stored clause of either kind and every unit is true, and `unsat` is not recorded
abbrev pub all_sat : State → (ℕ → Bool) → Bool
all_sat s a = not s.unsat && (stored_true a s.clauses && units_true a s.units)

-- the members p make all that is stored true
abbrev pub Covers : ((ℕ → Bool) → Bool) → State → Type 0
Covers p s = (a : ℕ → Bool) → p a ≡ true → all_sat s a ≡ true

-- after an accepted step for the changed members, after a rejected one for those before it
abbrev pub CoversAfter : ((ℕ → Bool) → Bool) → Step → Option Cause → State → Type 0
CoversAfter p t None r = Covers (changed t p) r
CoversAfter p t (Some cause) r = Covers p r

-- each step keeps it, for any set of members
abbrev pub StepsCover : Type 0
StepsCover = (p : (ℕ → Bool) → Bool) (s : State) (t : Step) → Covers p s →
    CoversAfter p t (step s t).refused (step s t).after
