-- What adding a formula emits, as the hint machine sees it.
--     input_steps id cs      the clauses put one after the other, under the ids from `id` on
--     FormulasEmit      the input steps of the clauses, or of a beginning of them
use Rattle.std.specs.Prelude.{◌≡◌, ℕ, ◌+◌, List, [], ◌∷◌, map, take}
use Rattle.checker_rules.specs.AddFormula.{added}
use Rattle.checker_rules.specs.CallEmissions.{EmitsCalls}
use Rattle.checker_rules.specs.Calls.{adds}
use Rattle.checker_rules.specs.Canonical.{canonical}
use Rattle.checker_rules.specs.CheckedSteps.{NamedStep, hint_steps}
use Rattle.checker_rules.specs.HintRun.{HintStep, puts_input}
use Rattle.checker_rules.specs.State.{State}

-- each clause put as an input clause, under ids that rise by one
abbrev pub input_steps : ℕ → List (List ℕ) → List HintStep
input_steps id [] = []
input_steps id (c ∷ cs) = puts_input id (canonical c) ∷ input_steps (id + 1) cs

-- a beginning, since nothing more is emitted once `unsat` is recorded, nor from a rejected clause on
abbrev pub FormulasEmit : Type 0
FormulasEmit = (s : State) (cs : List (List ℕ)) (es : List NamedStep) →
    EmitsCalls s (map adds (added s cs)) es →
    (n : ℕ) × (hint_steps es ≡ input_steps s.next (take n cs))
