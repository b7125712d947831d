-- Why a failed core is rejected before its check, and what its check delivers on.
--     core_cause s c      the first cause that applies to a canonical core
--     core_clause c      the clause that says that the core fails
--     core_steps s c hs      what is delivered on of a core without opposite literals, with the trace of its check
use Rattle.std.specs.Prelude.{ℕ, if◌then◌else◌, not, List, [], ◌∷◌, map, Option, None, Some, is_none}
use Rattle.std.specs.List.{list_any}
use Rattle.sat_rules.specs.Clauses.{negate, var_of}
use Rattle.checker_rules.specs.Canonical.{canonical, is_subset}
use Rattle.checker_rules.specs.Check.{check, ready}
use Rattle.checker_rules.specs.CheckedSteps.{NamedStep, checked_failed_assumptions, named_in}
use Rattle.checker_rules.specs.KnownVars.{user_from_proof_var}
use Rattle.checker_rules.specs.Outcome.{Cause, accept, core_var_hidden, not_assumed}
use Rattle.checker_rules.specs.State.{State}
use Rattle.checker_rules.specs.Traced.{check_trace}
use Rattle.checker_steps.specs.Derived.{steps_unless}

-- the first cause that applies to a canonical core
abbrev pub core_cause : State → List ℕ → Option Cause
core_cause s c =
    if not (is_subset c s.assumed) then Some not_assumed
    else if list_any (λ l. is_none (user_from_proof_var s (var_of l))) c then Some core_var_hidden
    else None

-- the clause that says that the core fails
abbrev pub core_clause : List ℕ → List ℕ
core_clause c = canonical (map negate c)

-- what is delivered on of a core without opposite literals, with the trace of its check
abbrev pub core_steps : State → List ℕ → List ℕ → List NamedStep
core_steps s c hs = steps_unless (check s (core_clause c) hs accept).refused
    (named_in (ready s (core_clause c))
    (checked_failed_assumptions c (check_trace (ready s (core_clause c)) (core_clause c) hs)) ∷ [])
