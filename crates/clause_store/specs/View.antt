-- The list of the stored clauses, by rising ids, whatever buckets they are kept in.
use Rattle.std.specs.Prelude.{ℕ, ◌≡◌, true, nat_lt, ◌==◌, if◌then◌else◌, List, [], ◌∷◌, map}
use Rattle.std.specs.List.{flat_map}
use Rattle.std.specs.HashMap.{keys}
use Rattle.checker_rules.specs.State.{Stored}
use Rattle.checker_rules.specs.Buckets.{of_hash}
use Rattle.checker_rules.specs.WellFormed.{ids_rise}
use Rattle.clause_store.specs.declared.clauses.Clause.{Clause}
use Rattle.clause_store.specs.declared.clauses.Clauses.{Clauses}
use Rattle.clause_store.specs.Lits.{lits_of}
use Rattle.clause_store.specs.Buckets.{Buckets, clauses_at}

-- a stored clause with its literals
abbrev pub stored_of : List ℕ → Clause → Stored
stored_of buffer c = record {
  lits = lits_of c.lits buffer;
  id = c.id;
  irredundant = c.irredundant;
  redundant = c.redundant;
}

-- the stored clauses with a hash, in order
abbrev pub stored_in : List ℕ → Buckets → ℕ → List Stored
stored_in buffer m h = map (stored_of buffer) (clauses_at m h)

-- a clause put into a list by rising ids; one whose id is there changes nothing
abbrev pub put_by_id : Stored → List Stored → List Stored
put_by_id x [] = x ∷ []
put_by_id x (y ∷ ys) =
    if nat_lt x.id y.id then x ∷ y ∷ ys
    else if x.id == y.id then y ∷ ys
    else y ∷ put_by_id x ys

-- the list by rising ids
abbrev pub by_id : List Stored → List Stored
by_id [] = []
by_id (x ∷ xs) = put_by_id x (by_id xs)

-- the clauses of all buckets, by rising ids
unfoldable pub list_of : List ℕ → Buckets → List Stored
list_of buffer m = by_id (flat_map (stored_in buffer m) (keys m))

-- the stored clauses with a hash
abbrev pub stored_at : Clauses → ℕ → List Stored
stored_at s h = stored_in s.literal_buffer.items s.buckets h

-- the stored clauses
abbrev pub stored_list : Clauses → List Stored
stored_list s = list_of s.literal_buffer.items s.buckets

-- a list by rising ids whose clauses the buckets hold by their hashes is the list of the buckets
abbrev pub ListIs : Type 0
ListIs = (buffer : List ℕ) (m : Buckets) (h : List ℕ → ℕ) (es : List Stored) (next : ℕ) →
    ids_rise 0 es next ≡ true → ((k : ℕ) → stored_in buffer m k ≡ of_hash h k es) →
    list_of buffer m ≡ es
