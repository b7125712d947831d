-- The stored clauses by their hashes.
use Rattle.std.specs.Prelude.{ℕ, ◌+◌, nat_eq, ◌==◌, Bool, if◌then◌else◌, List, [], ◌∷◌, Option, None, Some, All}
use Rattle.std.specs.HashMap.{HashMap, get}
use Rattle.std.specs.declared.hash.FoldHasher.{FoldHasher}
use Rattle.std.specs.declared.hash.BuildHasherDefault.{BuildHasherDefault}
use Rattle.clause_store.specs.declared.clauses.Clause.{Clause}
use Rattle.clause_store.specs.declared.clauses.buckets.Bucket.{Bucket}
use Rattle.clause_store.specs.declared.clauses.buckets.Bucket.TheVariants.{One, Many}
use Rattle.clause_store.specs.declared.clauses.lits.ClauseLits.{ClauseLits}
use Rattle.checker_rules.specs.Canonical.{same_list}
use Rattle.clause_store.specs.Crowds.{standing}
use Rattle.clause_store.specs.Lits.{IsWithin, lits_of}

-- a map from hashes to buckets
abbrev pub Buckets : Type 0
Buckets = HashMap ℕ Bucket (BuildHasherDefault FoldHasher)

-- the clauses of a bucket, in order
abbrev pub clauses_of : Bucket → List Clause
clauses_of (One c) = c ∷ []
clauses_of (Many b) = standing b.value.places.items

-- the clauses of a bucket, in order; none where there is no bucket
abbrev pub bucket_items : Option Bucket → List Clause
bucket_items None = []
bucket_items (Some b) = clauses_of b

-- the clauses with a hash, in order
abbrev pub clauses_at : Buckets → ℕ → List Clause
clauses_at m h = bucket_items (get nat_eq m h)

-- the literals of every clause are in the buffer
abbrev pub AreWithin : List ℕ → Buckets → Type 0
AreWithin buffer m = (k : ℕ) → All (λ c. IsWithin c.lits buffer) (clauses_at m k)

-- whether the clause has these literals
abbrev pub is_of : List ℕ → List ℕ → Clause → Bool
is_of buffer lits c = same_list (lits_of c.lits buffer) lits

-- how many copies of a kind
abbrev pub copies_of : Bool → Clause → ℕ
copies_of redundant c = if redundant then c.redundant else c.irredundant

-- the clause with one copy more
abbrev pub raised : Bool → Clause → Clause
raised redundant c =
    if redundant then record c { redundant = c.redundant + 1 }
    else record c { irredundant = c.irredundant + 1 }

-- a clause with one copy
abbrev pub first_copy_of : Bool → ℕ → ClauseLits → Clause
first_copy_of redundant id ls = record {
  id = id;
  irredundant = if redundant then 0 else 1;
  redundant = if redundant then 1 else 0;
  lits = ls;
}

-- whether the clause has this hash
abbrev pub has_hash : (List ℕ → ℕ) → List ℕ → ℕ → Clause → Bool
has_hash h buffer k c = h (lits_of c.lits buffer) == k
