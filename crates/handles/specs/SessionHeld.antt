-- The checker that a session holds.
--     state_of s      its checker, if there is one
--     given_to s      the clauses that were given to it, in their order
--     named_in o, named_to s      the clause of each id, if there is a checker
use Rattle.std.specs.Prelude.{ℕ, List, Option, None, Some}
use Rattle.std.specs.Option.{option_map}
use Rattle.session_checker.specs.Held.{given_by, named_by}
use Rattle.session_checker.specs.declared.checker.SessionChecker.{SessionChecker}
use Rattle.handles.specs.declared.session.Session.{Session}

-- its checker, if there is one
abbrev pub state_of : Session → Option SessionChecker
state_of s = s.slot.state

-- the clauses that were given to the checker, in their order
abbrev pub given_to : Session → Option (List (List ℕ))
given_to s = option_map given_by (state_of s)

-- the clause of each id that a checker names
abbrev pub named_in : Option SessionChecker → ℕ → Option (List ℕ)
named_in None = λ k. None
named_in (Some c) = named_by c

-- the clause of each id
abbrev pub named_to : Session → ℕ → Option (List ℕ)
named_to s = named_in (state_of s)
