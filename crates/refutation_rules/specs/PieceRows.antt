-- Worked rows: a small proof in two pieces, by DIMACS numbers.
use Rattle.std.specs.Prelude.{◌≡◌, ◌==◌, ℕ, true, false, List, [], ◌∷◌, Some}
use Rattle.sat_rules.specs.Clauses.{all_true, neg, pos}
use Rattle.sat_rules.specs.Named.{Item, NamedBy}
use Rattle.lrat_rules.specs.Lines.{Line, adds, along, deletes, run}
use Rattle.lrat_rules.specs.Stores.{find, formula_store}
use Rattle.refutation_rules.specs.Carrying.{Carries}
use Rattle.refutation_rules.specs.Pieces.{Chain}

-- 1: 1 2    2: 1 -2    3: -1 2    4: -1 -2
abbrev pub whole : List (List ℕ)
whole = (pos 1 ∷ pos 2 ∷ []) ∷ (pos 1 ∷ neg 2 ∷ []) ∷ (neg 1 ∷ pos 2 ∷ []) ∷ (neg 1 ∷ neg 2 ∷ [])
    ∷ []

-- `5 1 0 1 2 0`, `5 d 1 2 0`
abbrev pub first : List Line
first = adds 5 (pos 1 ∷ []) (along 1 ∷ along 2 ∷ []) ∷ deletes (1 ∷ 2 ∷ []) ∷ []

-- what lives after these lines, in another order
abbrev pub bound : List (List ℕ)
bound = (neg 1 ∷ pos 2 ∷ []) ∷ (neg 1 ∷ neg 2 ∷ []) ∷ (pos 1 ∷ []) ∷ []

abbrev pub behind : List Item
behind = record { id = 5; lits = pos 1 ∷ [] } ∷ record { id = 3; lits = neg 1 ∷ pos 2 ∷ [] }
    ∷ record { id = 4; lits = neg 1 ∷ neg 2 ∷ [] } ∷ []

-- 1: -1 2    2: 2 3    3: 2 -3
abbrev pub three : List (List ℕ)
three = (neg 1 ∷ pos 2 ∷ []) ∷ (pos 2 ∷ pos 3 ∷ []) ∷ (pos 2 ∷ neg 3 ∷ []) ∷ []

-- one fact a row
pub record PieceRows : Type 0 where
  pub ran : run (formula_store whole) first ≡ Some behind
  pub named : NamedBy (find behind) (3 ∷ 4 ∷ 5 ∷ []) bound
  pub chain : Chain whole (bound ∷ [])
  -- the last list must be refuted: a part of it can be satisfied
  pub open_end : Chain whole (((pos 1 ∷ []) ∷ []) ∷ []) → ⊥
  -- an id that was deleted names nothing, one more or less is wrong, and so is another order
  pub deleted : NamedBy (find behind) (1 ∷ []) ((pos 1 ∷ pos 2 ∷ []) ∷ []) → ⊥
  pub too_few : NamedBy (find behind) (3 ∷ 4 ∷ []) bound → ⊥
  pub too_many : NamedBy (find behind) (3 ∷ 4 ∷ 5 ∷ 5 ∷ []) bound → ⊥
  pub other_order : NamedBy (find behind) (4 ∷ 3 ∷ 5 ∷ []) bound → ⊥
  -- `4 1 0 -1 2 3 0`: the new clause is carried, and it is no consequence
  pub redundant : Carries three ((pos 1 ∷ []) ∷ [])
  pub no_consequence : (all_true (λ x. x == 1) three ≡ true)
      × (all_true (λ x. x == 1) ((pos 1 ∷ []) ∷ []) ≡ false)
  -- nothing that can be satisfied carries to the empty clause
  pub empty_clause : Carries three ([] ∷ []) → ⊥
