-- Worked rows: what a small circuit computes, and the formula of two of them.
use Rattle.std.specs.Prelude.{◌≡◌, true, false, List, [], ◌∷◌}
use Rattle.circuit_rules.specs.Circuits.{Gate, simulated}
use Rattle.circuit_rules.specs.Checks.{HavePlaces, same_clauses}

-- the conjunction of two inputs
abbrev pub one : List Gate
one = record { var = 3; left = 2; right = 4 } ∷ []

-- the conjunction of the same inputs the other way round
abbrev pub other : List Gate
other = record { var = 3; left = 4; right = 2 } ∷ []

-- one fact a row
pub record CircuitRows : Type 0 where
  -- variables 1 and 2 are inputs, and 3 is the gate; in the formula 6 is the second circuit's gate, and 7 is the difference
  pub places : HavePlaces 2 3 7 one (6 ∷ []) other (6 ∷ [])
  pub formula : same_clauses 2 3 7 one (6 ∷ []) other (6 ∷ []) ≡ (1 ∷ [])
      ∷ (7 ∷ 2 ∷ []) ∷ (7 ∷ 4 ∷ []) ∷ (6 ∷ 3 ∷ 5 ∷ [])
      ∷ (13 ∷ 4 ∷ []) ∷ (13 ∷ 2 ∷ []) ∷ (12 ∷ 5 ∷ 3 ∷ [])
      ∷ (15 ∷ 6 ∷ 12 ∷ []) ∷ (15 ∷ 7 ∷ 13 ∷ []) ∷ (14 ∷ []) ∷ []
  -- the gate is true where both inputs are
  pub both : simulated (λ x. true) one 3 ≡ true
  -- the constant is false, whatever the input
  pub constant : simulated (λ x. true) one 0 ≡ false
