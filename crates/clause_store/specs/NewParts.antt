-- The parts of a checker with nothing stored.
use Rattle.std.specs.Prelude.{◌≡◌, [], false, None}
use Rattle.std.specs.HashMap.{IsEmpty}
use Rattle.clause_store.specs.declared.clauses.Clauses.{Clauses}
use Rattle.clause_store.specs.declared.state.CheckerState.{CheckerState}

-- nothing is recorded
pub record IsNewState (st : CheckerState) : Type 0 where
  pub step : st.step ≡ 0
  pub unsat : st.unsat ≡ false
  pub ended : st.ended ≡ false
  pub failed : st.failed ≡ false
  pub inputs : st.input_clauses ≡ 0
  pub assumptions : st.assumptions.items ≡ []
  pub previous : st.previous_id ≡ None

-- nothing is stored
pub record IsEmptyStore (cs : Clauses) : Type 0 where
  pub next : cs.next_clause_id ≡ 0
  pub buffer : cs.literal_buffer.items ≡ []
  pub garbage : cs.garbage_size ≡ 0
  pub buckets : IsEmpty cs.buckets
  pub counts : cs.lit_counts ≡ []
  pub units : cs.unit_clauses ≡ []
  pub conflict : cs.unit_conflict ≡ None
