-- What a traced check lists.
use Rattle.std.specs.Prelude.{◌≡◌, ℕ, Bool, true, false, if◌then◌else◌, ◌&&◌, List, [], ◌∷◌, ◌++◌, map, Option, None, Some, All, is_some}
use Rattle.std.specs.Option.{option_map}
use Rattle.sat_rules.specs.Clauses.{var_of}
use Rattle.sat_rules.specs.Named.{Item}
use Rattle.checker_rules.specs.Emits.{first_true}
use Rattle.checker_rules.specs.Hints.{Visit, trace, unlisted_at, visit}
use Rattle.checker_rules.specs.State.{Stored, StoredUnit, some_true_unit, start_set, unit_of}
use Rattle.checker_rules.specs.Store.{unit_id}
use Rattle.checker_rules.specs.Traced.{ids_of}
use Rattle.clause_store.specs.declared.clauses.units.UnitClause.{UnitClause}
use Rattle.clause_store.specs.declared.rup.Answer.{Answer}
use Rattle.clause_store.specs.declared.rup.Answer.TheVariants.{Passed, NoClauseForHash, Failed}
use Rattle.clause_store.specs.Buckets.{Buckets}
use Rattle.clause_store.specs.Rup.{true_lits}
use Rattle.clause_store.specs.StateOf.{stored_units}
use Rattle.clause_store.specs.Units.{number_of, stored_id, unit_at}
use Rattle.clause_store.specs.View.{stored_in}

-- a variable that has no value, or that of a stored unit
abbrev pub IsAtRest : Option UnitClause → Type 0
IsAtRest None = Unit {0}
IsAtRest (Some u) = is_some (number_of u.id) ≡ true

-- every value is a stored unit's
abbrev pub AreStored : List (Option UnitClause) → Type 0
AreStored us = All IsAtRest us

-- the literals that stored units make true
abbrev pub unlisted_lits : List (Option UnitClause) → ℕ → Bool
unlisted_lits us m = is_some (stored_id (unit_at us (var_of m))) && true_lits us m

-- no stored unit's value is new
abbrev pub KeepsStored : List (Option UnitClause) → List (Option UnitClause) → Type 0
KeepsStored us vs = (v : ℕ) → is_some (stored_id (unit_at vs v)) ≡ true →
    unit_at us v ≡ unit_at vs v

-- the ids of what is listed
abbrev pub item_ids : List Item → List ℕ
item_ids xs = map (λ x. x.id) xs

-- what a look at the literals finds
abbrev pub look : List (Option UnitClause) → List ℕ → Visit
look us c = visit (stored_units us) (true_lits us) (unlisted_lits us) c

-- the ids that are listed after a look, and the literals that stored units make true that are not
abbrev pub looked : List ℕ → List (Option UnitClause) → List ℕ → List ℕ × (ℕ → Bool)
looked ids us c = (ids ++ item_ids (look us c).items, (look us c).unlisted)

-- which ids are listed after a walk that meets a falsified clause, by those before it, the values and the clauses
abbrev pub Listing : Type 0
Listing = List ℕ → List (Option UnitClause) → List Stored → Option (List ℕ)

-- the ids that a traced check has listed then
abbrev pub ids_after : List ℕ → List (Option UnitClause) → List Stored → Option (List ℕ)
ids_after ids us es = option_map (λ items. ids ++ item_ids items)
    (trace (stored_units us) (true_lits us) (unlisted_lits us) es)

-- a walk over clauses meets a falsified one, or continues with these ids and values, whatever clauses follow
abbrev pub Lists : Listing → List ℕ → List (Option UnitClause) → List Stored → List ℕ →
    List (Option UnitClause) → Bool → Type 0
Lists after ids us es now vs falsified = (rest : List Stored) →
    after ids us (es ++ rest) ≡ (if falsified then Some now else after now vs rest)

-- a walk over buckets, these clauses the first, ends in it with these ids, or continues with them
pub record ListsFirst (after : Listing) (ids : List ℕ) (us : List (Option UnitClause))
    (es : List Stored) (now : List ℕ) (vs : List (Option UnitClause)) (end : Option Answer) :
    Type 0 where
  pub passed : end ≡ Some Passed → Lists after ids us es now vs true
  pub goes_on : end ≡ None → Lists after ids us es now vs false

-- the clauses of the named buckets, one after the other
abbrev pub named_clauses : List ℕ → Buckets → List ℕ → List Stored
named_clauses buffer m [] = []
named_clauses buffer m (h ∷ hs) = stored_in buffer m h ++ named_clauses buffer m hs

-- the id of the unit that makes the first true literal true
abbrev pub true_unit_id : List (Option StoredUnit) → List ℕ → Option ℕ
true_unit_id us c =
    if some_true_unit us c then Some (unit_id (unit_of us (var_of (first_true us c))))
    else None

-- the trace of the walk over these clauses with the negated clause
abbrev pub open_trace : List (Option StoredUnit) → List ℕ → List Stored → Option (List Item)
open_trace us c es = trace us (start_set us c) (unlisted_at us c) es

-- the ids that a passed check lists
abbrev pub clause_trace : List (Option StoredUnit) → List ℕ → List Stored → List ℕ
clause_trace us c es =
    if some_true_unit us c then unit_id (unit_of us (var_of (first_true us c))) ∷ []
    else ids_of (open_trace us c es)

-- from these ids and values, or with no walk where a literal was true already, a check that passes lists in all `whole cs`, whatever clauses cs are named
abbrev pub Opens : Listing → List ℕ → List (Option UnitClause) → (List Stored → List ℕ) → Bool →
    Type 0
Opens after ids us whole met = (cs : List Stored) (last : List ℕ) →
    (if met then Some ids else after ids us cs) ≡ Some last → last ≡ whole cs

-- the ids that are left after a check: those of its trace where it was traced and passed
abbrev pub last_trace : Bool → Answer → List ℕ → List ℕ → List ℕ
last_trace traced Passed ids old = if traced then ids else old
last_trace traced NoClauseForHash ids old = old
last_trace traced Failed ids old = old
