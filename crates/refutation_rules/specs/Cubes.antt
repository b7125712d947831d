-- A formula split into cubes: lists of literals that are assumed together.
--     units_of cube, clause_against cube      a unit clause for each literal;  one clause of their negations
--     IsRefuted cs      no assignment makes all clauses true
--     CubesCover      what the parts and the cover say of the formula
use Rattle.std.specs.Prelude.{◌≡◌, ℕ, Bool, false, List, [], ◌∷◌, ◌++◌, map}
use Rattle.std.specs.List.{All}
use Rattle.sat_rules.specs.Clauses.{all_true, negate}

-- a unit clause for each literal
abbrev pub units_of : List ℕ → List (List ℕ)
units_of cube = map (λ l. l ∷ []) cube

-- the clause that is false where all literals of the cube are true
abbrev pub clause_against : List ℕ → List ℕ
clause_against cube = map negate cube

-- no assignment makes all of these clauses true
abbrev pub IsRefuted : List (List ℕ) → Type 0
IsRefuted cs = (a : ℕ → Bool) → all_true a cs ≡ false

-- a formula is refuted if it is with the units of each cube, and with a clause against each cube
abbrev pub CubesCover : Type 0
CubesCover = (formula cubes : List (List ℕ)) →
    All (λ cube. IsRefuted (formula ++ units_of cube)) cubes →
    IsRefuted (formula ++ map clause_against cubes) → IsRefuted formula
