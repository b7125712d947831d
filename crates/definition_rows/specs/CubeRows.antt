-- A formula and a cube, by DIMACS numbers.
use Rattle.std.specs.Prelude.{◌≡◌, ℕ, List, [], ◌∷◌, ◌++◌, map}
use Rattle.sat_rules.specs.Clauses.{neg, pos}
use Rattle.refutation_rules.specs.Cubes.{CubesCover, IsRefuted, clause_against, units_of}

-- 1
abbrev pub one : List (List ℕ)
one = (pos 1 ∷ []) ∷ []

-- one fact a row
pub record CubeRows : Type 0 where
  pub units : units_of (pos 1 ∷ neg 2 ∷ []) ≡ (pos 1 ∷ []) ∷ (neg 2 ∷ []) ∷ []
  pub against : clause_against (pos 1 ∷ neg 2 ∷ []) ≡ neg 1 ∷ pos 2 ∷ []
  -- the part of the cube -1 is refuted, and the formula is not: the clause against the cube can be true
  pub part : IsRefuted (one ++ units_of (neg 1 ∷ []))
  pub cover : IsRefuted (one ++ map clause_against ((neg 1 ∷ []) ∷ [])) → ⊥
  pub whole : IsRefuted one → ⊥
  -- nothing refutes no clauses, and the empty clause refutes
  pub no_clauses : IsRefuted [] → ⊥
  pub empty_clause : IsRefuted ([] ∷ [])
  -- a use of the law: a formula that is refuted with 1, and with -1, the clause against that cube
  pub split : CubesCover → (cs : List (List ℕ)) → IsRefuted (cs ++ (pos 1 ∷ []) ∷ [])
      → IsRefuted (cs ++ (neg 1 ∷ []) ∷ []) → IsRefuted cs
