-- What justifies the deletion of a clause.
use Rattle.std.specs.Prelude.{◌≡◌, ℕ, Bool, true, false, if◌then◌else◌, List, Option, None, Some, Result, Ok, Err}
use Rattle.std.specs.Option.{option_map}
use Rattle.sat_rules.specs.Clauses.{var_of}
use Rattle.checker_rules.specs.DeleteClause.{delete_justified, forget, justified, subsumed_by}
use Rattle.checker_rules.specs.Emits.{first_true, previous_id}
use Rattle.checker_rules.specs.Outcome.{refuse}
use Rattle.checker_rules.specs.State.{State, unit_of}
use Rattle.checker_rules.specs.Step.{Justification, by_redundant, by_satisfied, by_simplified}
use Rattle.checker_rules.specs.Store.{unit_id}
use Rattle.checker_parts.specs.Causes.{cause_of}
use Rattle.checker_parts.specs.declared.error.CheckCause.{CheckCause}
use Rattle.clause_store.specs.declared.state.CheckerState.{CheckerState}

-- the previous clause with its id
abbrev pub previous_of : CheckerState → Option (List ℕ × ℕ)
previous_of st = option_map (λ id. (st.previous_lits.items, id)) st.previous_id

-- the id of the previous clause where it is a proper subset
abbrev pub subsuming_id : Option (List ℕ × ℕ) → List ℕ → Option ℕ
subsuming_id previous c = if subsumed_by previous c then Some (previous_id previous) else None

-- whether a redundant copy is removed
abbrev pub of_redundant : Justification → Bool
of_redundant by_redundant = true
of_redundant by_satisfied = false
of_redundant by_simplified = false

-- the id of the clause that implies the one that is removed; a redundant one needs none
abbrev pub implying_id : Justification → List ℕ → State → Option ℕ
implying_id by_redundant c s = None
implying_id by_satisfied c s = Some (unit_id (unit_of s.units (var_of (first_true s.units c))))
implying_id by_simplified c s = Some (previous_id s.previous)

-- what the test of a justification answers
abbrev pub AnswersJustified : Result (Option ℕ) CheckCause → Justification → List ℕ → State → Type 0
AnswersJustified (Ok id) j c s = (justified j c s ≡ delete_justified (of_redundant j) c (forget s))
    × (id ≡ implying_id j c s)
AnswersJustified (Err cause) j c s = justified j c s ≡ refuse (cause_of cause) s
