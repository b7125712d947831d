-- The parts of a checker as the state of the rules.
use Rattle.std.specs.Prelude.{ℕ, ◌≡◌, List, map, Option}
use Rattle.std.specs.Option.{option_map}
use Rattle.checker_rules.specs.State.{State, StoredUnit, Known, clause_hash}
use Rattle.checker_rules.specs.Buckets.{of_hash}
use Rattle.clause_store.specs.declared.clauses.Clauses.{Clauses}
use Rattle.clause_store.specs.declared.clauses.units.UnitClause.{UnitClause}
use Rattle.clause_store.specs.declared.clauses.units.UnitId.{UnitId}
use Rattle.clause_store.specs.declared.clauses.units.UnitId.TheVariants.{Global, TracePos, InClause}
use Rattle.clause_store.specs.declared.hash.ClauseHasher.{ClauseHasher}
use Rattle.clause_store.specs.declared.state.CheckerState.{CheckerState}
use Rattle.clause_store.specs.Names.{indexes, names_of}
use Rattle.clause_store.specs.View.{stored_at, stored_list}

-- the id of a stored unit; between calls every value is a stored unit's
abbrev pub id_of_unit : UnitId → ℕ
id_of_unit (Global n) = n
id_of_unit (TracePos n) = 0
id_of_unit InClause = 0

-- a value as a stored unit
abbrev pub stored_unit : UnitClause → StoredUnit
stored_unit u = record { value = u.value; id = id_of_unit u.id }

-- the stored units, by variable
abbrev pub stored_units : List (Option UnitClause) → List (Option StoredUnit)
stored_units us = map (option_map stored_unit) us

-- the applied name of a variable
abbrev pub applied_of : ClauseHasher → ℕ → Option ℕ
applied_of h v = names_of h.solver_names v

-- the hash of a clause by the applied names and the width
abbrev pub hash_of : ClauseHasher → List ℕ → ℕ
hash_of h c = clause_hash (applied_of h) h.hash_bits c

-- the pending names and removals
abbrev pub pending_of : ClauseHasher → List (ℕ × Option ℕ)
pending_of h = map indexes h.pending.entries.items

-- the state that the parts represent, with these known variables
abbrev pub state_of : CheckerState → ClauseHasher → Clauses → List Known → State
state_of st h cs known = record {
  clauses = stored_list cs;
  units = stored_units cs.unit_clauses;
  unsat = st.unsat;
  conflict = cs.unit_conflict;
  next = cs.next_clause_id;
  inputs = st.input_clauses;
  assumed = st.assumptions.items;
  previous = option_map (λ id. (st.previous_lits.items, id)) st.previous_id;
  known = known;
  applied = applied_of h;
  pending = pending_of h;
  width = h.hash_bits;
  ended = st.ended;
  steps = st.step;
  failed = st.failed;
}

-- the buckets hold the stored clauses by their hashes, in their order
abbrev pub IsBucketed : ClauseHasher → Clauses → Type 0
IsBucketed h cs = (k : ℕ) → stored_at cs k ≡ of_hash (hash_of h) k (stored_list cs)
