-- Edits of the stored clauses.
use Rattle.std.specs.Prelude.{◌≡◌, ℕ, ◌+◌, ◌++◌, ◌∷◌, [], Bool, List, length, map, All}
use Rattle.checker_rules.specs.LiveLiterals.{live_of}
use Rattle.checker_rules.specs.State.{Stored}
use Rattle.checker_rules.specs.Store.{raise}
use Rattle.clause_store.specs.declared.clauses.Clauses.{Clauses}
use Rattle.clause_store.specs.Buckets.{AreWithin, Buckets, clauses_at}
use Rattle.clause_store.specs.Counts.{HoldOneMore}
use Rattle.clause_store.specs.Lits.{IsWithin}
use Rattle.clause_store.specs.View.{stored_at, stored_in}

-- one copy more of a clause is counted in its bucket
pub record IsRaised (buffer : List ℕ) (hash : ℕ) (redundant : Bool) (c : List ℕ)
    (m m' : Buckets) : Type 0 where
  pub here : stored_in buffer m' hash ≡ map (raise redundant c) (stored_in buffer m hash)
  pub within : All (λ d. IsWithin d.lits buffer) (clauses_at m' hash)
  pub others : (k : ℕ) → (k ≡ hash → ⊥) → clauses_at m' k ≡ clauses_at m k

-- one more clause is at the end of the bucket, and its literals in the buffer if there are more than three; an id is taken,
-- and its literals are counted
pub record IsPushed (hash : ℕ) (e : Stored) (cs cs' : Clauses) : Type 0 where
  pub here : stored_at cs' hash ≡ stored_at cs hash ++ e ∷ []
  pub others : (k : ℕ) → (k ≡ hash → ⊥) → stored_at cs' k ≡ stored_at cs k
  pub within : AreWithin cs'.literal_buffer.items cs'.buckets
  pub used : length cs'.literal_buffer.items ≡ length cs.literal_buffer.items + live_of e.lits
  pub next : cs'.next_clause_id ≡ cs.next_clause_id + 1
  pub garbage : cs'.garbage_size ≡ cs.garbage_size
  pub held : HoldOneMore e.lits cs.lit_counts cs'.lit_counts
  pub counted : length cs'.lit_counts ≡ length cs.lit_counts
  pub units : cs'.unit_clauses ≡ cs.unit_clauses
  pub conflict : cs'.unit_conflict ≡ cs.unit_conflict

-- ids, units and the unit conflict stay
pub record KeepsRest (cs cs' : Clauses) : Type 0 where
  pub next : cs'.next_clause_id ≡ cs.next_clause_id
  pub units : cs'.unit_clauses ≡ cs.unit_clauses
  pub conflict : cs'.unit_conflict ≡ cs.unit_conflict
