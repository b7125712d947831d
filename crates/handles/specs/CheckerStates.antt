-- The state of a checker that may be there.
--     state_in p      the state of the checker
--     HasState o P      there is a checker, and P holds of its state
--     shows_unsat o      there is one, it has not failed, and unsatisfiability is recorded
use Rattle.std.specs.Prelude.{Bool, false, Option, None, Some}
use Rattle.checker_rules.specs.Calls.{shown_unsat}
use Rattle.checker_rules.specs.State.{State}
use Rattle.varisat_checker.specs.Shown.{state}
use Rattle.handles.specs.declared.checker_ported.Ported.{Ported}

-- the state of the checker
abbrev pub state_in : Ported → State
state_in p = state p.checker

-- a checker in such a state
abbrev pub HasState : Option State → (State → Type 0) → Type 0
HasState None P = ⊥
HasState (Some s) P = P s

-- whether unsatisfiability is shown
abbrev pub shows_unsat : Option State → Bool
shows_unsat None = false
shows_unsat (Some s) = shown_unsat s
