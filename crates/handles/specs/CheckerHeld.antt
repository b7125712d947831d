-- The checker behind a handle.
--     state_of h      the state of its checker, if there is one
use Rattle.std.specs.Prelude.{Option}
use Rattle.std.specs.Option.{option_map}
use Rattle.checker_rules.specs.State.{State}
use Rattle.handles.specs.CheckerStates.{state_in}
use Rattle.handles.specs.declared.checker.CheckerHandle.{CheckerHandle}

-- the state of the checker behind the handle
abbrev pub state_of : CheckerHandle → Option State
state_of h = option_map state_in h.slot.state
