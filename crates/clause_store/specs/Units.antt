-- The values of variables.
use Rattle.std.specs.Prelude.{◌≡◌, ℕ, ◌<◌, ◌≤◌, Bool, true, false, not, List, [], ◌∷◌, Option, None, Some, length, slice_index_or, slice_set}
use Rattle.std.specs.Option.{option_map}
use Rattle.sat_rules.specs.Clauses.{is_negative, var_of}
use Rattle.checker_rules.specs.Canonical.{var_bound}
use Rattle.checker_rules.specs.State.{same_bool}
use Rattle.clause_store.specs.declared.clauses.units.Source.{Source}
use Rattle.clause_store.specs.declared.clauses.units.Source.TheVariants.{Stored, Derived, Negated}
use Rattle.clause_store.specs.declared.clauses.units.UnitClause.{UnitClause}
use Rattle.clause_store.specs.declared.clauses.units.UnitId.{UnitId}
use Rattle.clause_store.specs.declared.clauses.units.UnitId.TheVariants.{Global, TracePos, InClause}
use Rattle.clause_store.specs.declared.clauses.units.Value.{Value}
use Rattle.clause_store.specs.declared.clauses.units.Value.TheVariants as values

-- a source with its number
abbrev pub id_by : Source → ℕ → UnitId
id_by Stored n = Global n
id_by Derived n = TracePos n
id_by Negated n = InClause

-- whether there is a value
abbrev pub known : Value → Option Bool
known values.Free = None
known values.False = Some false
known values.True = Some true

-- a value with its id
abbrev pub unit_by : Value → UnitId → Option UnitClause
unit_by values.Free id = None
unit_by values.False id = Some (record { id = id; value = false })
unit_by values.True id = Some (record { id = id; value = true })

-- three columns as one list
abbrev pub units_by : List Value → List Source → List ℕ → List (Option UnitClause)
units_by [] ss ns = []
units_by (v ∷ vs) [] ns = []
units_by (v ∷ vs) (s ∷ ss) [] = []
units_by (v ∷ vs) (s ∷ ss) (n ∷ ns) = unit_by v (id_by s n) ∷ units_by vs ss ns

-- the columns have one length
pub record AreEven (vs : List Value) (ss : List Source) (ns : List ℕ) : Type 0 where
  pub sources : length ss ≡ length vs
  pub numbers : length ns ≡ length vs

-- the value of the variable of this index; none for an unknown one
abbrev pub unit_at : List (Option UnitClause) → ℕ → Option UnitClause
unit_at us k = slice_index_or us k None

-- the id of a stored unit
abbrev pub number_of : UnitId → Option ℕ
number_of (Global n) = Some n
number_of (TracePos n) = None
number_of InClause = None

-- the id of the stored unit that gives the value
abbrev pub stored_id : Option UnitClause → Option ℕ
stored_id None = None
stored_id (Some u) = number_of u.id

-- the value of a literal, by that of its variable
abbrev pub signed : Option Bool → ℕ → Option Bool
signed None m = None
signed (Some b) m = Some (same_bool b (not (is_negative m)))

-- the value of a literal, where its variable has this one
abbrev pub value_by : Option UnitClause → ℕ → Option Bool
value_by None m = None
value_by (Some u) m = Some (same_bool u.value (not (is_negative m)))

-- the value of a literal; none for one of a variable without a value
abbrev pub lit_value : List (Option UnitClause) → ℕ → Option Bool
lit_value us m = value_by (unit_at us (var_of m)) m

-- the value of a literal, with what gives its variable a value
abbrev pub signed_unit : Option UnitClause → ℕ → Option (Bool × UnitClause)
signed_unit None m = None
signed_unit (Some u) m = Some (same_bool u.value (not (is_negative m)), u)

-- the value of a literal with that; none for one of a variable without a value
abbrev pub lit_unit : List (Option UnitClause) → ℕ → Option (Bool × UnitClause)
lit_unit us m = signed_unit (unit_at us (var_of m)) m

-- these are the values of the known variables
abbrev pub AreValues : List Value → List (Option UnitClause) → Type 0
AreValues vs us = (i : ℕ) → i < length us → (i < length vs)
    × (known (slice_index_or vs i values.Free) ≡ option_map (λ u. u.value) (unit_at us i))

-- the variables of the literals are known
abbrev pub AreKnown : List (Option UnitClause) → List ℕ → Type 0
AreKnown us c = var_bound c ≤ length us

-- the variable of this index is given this value, with some id
abbrev pub IsGiven : List (Option UnitClause) → ℕ → Bool → List (Option UnitClause) → Type 0
IsGiven us i b vs = (u : UnitClause) × (u.value ≡ b) × (vs ≡ slice_set us i (Some u))
