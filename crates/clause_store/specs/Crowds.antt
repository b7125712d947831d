-- Places of clauses, where some are free.
use Rattle.std.specs.Prelude.{◌≡◌, ℕ, ◌<◌, true, List, length, filter_map, Option, None, Some, slice_index_or}
use Rattle.checker_rules.specs.Canonical.{same_list}
use Rattle.clause_store.specs.declared.clauses.Clause.{Clause}
use Rattle.clause_store.specs.Lits.{lits_of}

-- the clauses of the places that are not free, in order
abbrev pub standing : List (Option Clause) → List Clause
standing ps = filter_map (λ p. p) ps

-- the clause d is in the place i, and has these literals
pub record IsPlaced (buffer lits : List ℕ) (ps : List (Option Clause)) (i : ℕ) (d : Clause) : Type 0
  where
    pub within : i < length ps
    pub here : slice_index_or ps i None ≡ Some d
    pub same : same_list (lits_of d.lits buffer) lits ≡ true
