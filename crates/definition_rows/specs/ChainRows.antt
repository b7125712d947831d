-- Lists of clauses that live where a proof was cut, by DIMACS numbers.
use Rattle.std.specs.Prelude.{ℕ, List, [], ◌∷◌}
use Rattle.sat_rules.specs.Clauses.{neg, pos}
use Rattle.refutation_rules.specs.Cubes.{IsRefuted}
use Rattle.refutation_rules.specs.Carrying.{Carries}
use Rattle.refutation_rules.specs.Pieces.{Chain, PiecesJoin}

-- 1;  1 and -1;  the empty clause
abbrev pub one : List (List ℕ)
one = (pos 1 ∷ []) ∷ []

abbrev pub both : List (List ℕ)
both = (pos 1 ∷ []) ∷ (neg 1 ∷ []) ∷ []

abbrev pub empty : List (List ℕ)
empty = [] ∷ []

-- one fact a row
pub record ChainRows : Type 0 where
  -- a list that is refuted, and pieces up to one
  pub whole : Chain both []
  pub two_pieces : Chain both (both ∷ empty ∷ [])
  -- the last list can be satisfied
  pub open_formula : Chain one [] → ⊥
  pub open_end : Chain both (one ∷ []) → ⊥
  -- a piece does not carry: the first one, and the second one, where the formula would
  pub first_piece : Chain one (empty ∷ []) → ⊥
  pub second_piece : Chain both (one ∷ empty ∷ []) → ⊥
  -- a use of the law
  pub joined : PiecesJoin → (cs ds : List (List ℕ)) → Carries cs ds → IsRefuted ds → IsRefuted cs
