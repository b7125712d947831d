-- Copies of clauses removed.
use Rattle.std.specs.Prelude.{◌≡◌, ℕ, ◌-◌, ◌<◌, ◌&&◌, ◌==◌, Bool, true, false, if◌then◌else◌, List, map, All}
use Rattle.checker_rules.specs.Buckets.{remaining}
use Rattle.checker_rules.specs.State.{Stored}
use Rattle.checker_rules.specs.Store.{count_of, id_among, is_stored, lower}
use Rattle.clause_store.specs.declared.clauses.Clause.{Clause}
use Rattle.clause_store.specs.declared.clauses.lower.Left.{Left}
use Rattle.clause_store.specs.declared.clauses.lower.Missing.{Missing}
use Rattle.clause_store.specs.declared.clauses.lower.Missing.TheVariants.{Clause as NoClause, Copy as NoCopy}
use Rattle.clause_store.specs.Buckets.{Buckets, clauses_at}
use Rattle.clause_store.specs.Lits.{IsWithin}
use Rattle.clause_store.specs.View.{stored_in, stored_of}

-- the clause with one copy less
abbrev pub lowered : Bool → Clause → Clause
lowered redundant c =
    if redundant then record c { redundant = c.redundant - 1 }
    else record c { irredundant = c.irredundant - 1 }

-- its id and its counts
abbrev pub left_of : Clause → Left
left_of c = record { id = c.id; irredundant = c.irredundant; redundant = c.redundant }

-- whether no copy is left
abbrev pub is_gone : Left → Bool
is_gone left = left.irredundant == 0 && left.redundant == 0

-- what is left of the clause among the stored ones: its id, its counts except for one copy of the kind
pub record IsLeft (redundant : Bool) (c : List ℕ) (es : List Stored) (left : Left) : Type 0 where
  pub copy : 0 < count_of redundant c es
  pub id : left.id ≡ id_among c es
  pub irredundant : left.irredundant ≡ count_of false c es - (if redundant then 0 else 1)
  pub redundants : left.redundant ≡ count_of true c es - (if redundant then 1 else 0)

-- one copy of the clause is removed in a bucket
pub record IsLoweredIn (buffer : List ℕ) (redundant : Bool) (c : List ℕ) (cs cs' : List Clause)
    (left : Left) : Type 0 where
  pub here : map (stored_of buffer) cs' ≡
      remaining (map (lower redundant c) (map (stored_of buffer) cs))
  pub within : All (λ d. IsWithin d.lits buffer) cs'
  pub is_left : IsLeft redundant c (map (stored_of buffer) cs) left

-- and in the bucket of this hash
pub record IsLowered (buffer : List ℕ) (hash : ℕ) (redundant : Bool) (c : List ℕ) (m m' : Buckets)
    (left : Left) : Type 0 where
  pub here : stored_in buffer m' hash ≡
      remaining (map (lower redundant c) (stored_in buffer m hash))
  pub within : All (λ d. IsWithin d.lits buffer) (clauses_at m' hash)
  pub others : (k : ℕ) → (k ≡ hash → ⊥) → clauses_at m' k ≡ clauses_at m k
  pub is_left : IsLeft redundant c (stored_in buffer m hash) left

-- why no copy was removed
abbrev pub IsMissing : Bool → List ℕ → List Stored → Missing → Type 0
IsMissing redundant c es NoClause = is_stored c es ≡ false
IsMissing redundant c es NoCopy = (is_stored c es ≡ true) × (count_of redundant c es ≡ 0)
