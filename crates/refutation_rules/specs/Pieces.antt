-- A proof that was cut into pieces, and what they say together.
--     Chain cs bounds      cs carries to the first list, each list to the next, the last is refuted
--     PiecesJoin      then cs is refuted
use Rattle.std.specs.Prelude.{ℕ, List, [], ◌∷◌}
use Rattle.refutation_rules.specs.Cubes.{IsRefuted}
use Rattle.refutation_rules.specs.Carrying.{Carries}

-- the lists are the clauses that live where the proof was cut
abbrev pub Chain : List (List ℕ) → List (List (List ℕ)) → Type 0
Chain cs [] = IsRefuted cs
Chain cs (ds ∷ bounds) = Carries cs ds × Chain ds bounds

-- a formula is refuted where each piece carries to the next, and the last list is refuted
abbrev pub PiecesJoin : Type 0
PiecesJoin = (formula : List (List ℕ)) (bounds : List (List (List ℕ)))
    → Chain formula bounds → IsRefuted formula
