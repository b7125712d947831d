-- Worked rows, by DIMACS numbers.
use Rattle.std.specs.Prelude.{◌≡◌, ℕ, List, [], ◌∷◌}
use Rattle.sat_rules.specs.Clauses.{neg, pos}
use Rattle.refutation_rules.specs.Follows.{Follows, follow_clauses}
use Rattle.refutation_rules.specs.Minimal.{IsMinimal}

-- 1 2    -1 2
abbrev pub two : List (List ℕ)
two = (pos 1 ∷ pos 2 ∷ []) ∷ (neg 1 ∷ pos 2 ∷ []) ∷ []

-- one fact a row
pub record FollowRows : Type 0 where
  pub entailed : Follows two ((pos 2 ∷ []) ∷ [])
  pub open_claim : Follows two ((pos 1 ∷ []) ∷ []) → ⊥
  pub second_open : Follows two ((pos 2 ∷ []) ∷ (pos 1 ∷ []) ∷ []) → ⊥
  -- a tautology follows from all, all follows from a formula that no assignment satisfies, and the empty clause from no other
  pub tautology : Follows [] ((pos 3 ∷ neg 3 ∷ []) ∷ [])
  pub unsatisfiable : Follows ([] ∷ []) ((pos 1 ∷ []) ∷ [])
  pub empty_clause : Follows two ([] ∷ []) → ⊥
  -- 2, and -1 -2: the selectors are 3 and 4
  pub asked : follow_clauses 2 two ((pos 2 ∷ []) ∷ (neg 1 ∷ neg 2 ∷ []) ∷ []) ≡
      (pos 1 ∷ pos 2 ∷ []) ∷ (neg 1 ∷ pos 2 ∷ []) ∷ (neg 3 ∷ neg 2 ∷ []) ∷ (neg 4 ∷ pos 1 ∷ []) ∷
      (neg 4 ∷ pos 2 ∷ []) ∷ (pos 3 ∷ pos 4 ∷ []) ∷ []
  -- a formula that can be satisfied, a clause that occurs twice, and one that is not needed
  pub satisfiable : IsMinimal ((pos 1 ∷ []) ∷ []) → ⊥
  pub twice : IsMinimal ((pos 1 ∷ []) ∷ (neg 1 ∷ []) ∷ (pos 1 ∷ []) ∷ []) → ⊥
  pub needless : IsMinimal ([] ∷ (pos 1 ∷ []) ∷ []) → ⊥
