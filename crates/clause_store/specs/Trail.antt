-- The values that were overwritten, the oldest first.
use Rattle.std.specs.Prelude.{◌≡◌, ℕ, ◌<◌, List, [], ◌∷◌, Option, None, All, length, slice_set}
use Rattle.sat_rules.specs.Clauses.{var_of}
use Rattle.clause_store.specs.declared.clauses.units.UnitClause.{UnitClause}

-- the values after those of the trail are put back, the newest first
abbrev pub undone : List (Option UnitClause) → List (ℕ × Option UnitClause) →
    List (Option UnitClause)
undone us [] = us
undone us (t ∷ ts) = slice_set (undone us ts) (var_of t.0) t.1

-- the variables of the trail are known
abbrev pub IsTrailFor : List (Option UnitClause) → List (ℕ × Option UnitClause) → Type 0
IsTrailFor us ts = All (λ t. var_of t.0 < length us) ts

-- undoing gives what it gave before
pub record IsUndoable (us : List (Option UnitClause)) (ts : List (ℕ × Option UnitClause))
    (vs : List (Option UnitClause)) (now : List (ℕ × Option UnitClause)) : Type 0 where
  pub known : length vs ≡ length us
  pub undone : undone vs now ≡ undone us ts
  pub trail : IsTrailFor vs now

-- the trail of literals whose variables had no value
abbrev pub freed : List ℕ → List (ℕ × Option UnitClause)
freed [] = []
freed (m ∷ ms) = (m, None) ∷ freed ms
