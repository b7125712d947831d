-- Marks of literals, by their codes.
--     is_marked marks l, HasPlaces marks known      whether a literal is marked; a place for each literal of a known variable
--     MarksOnly marks ls      no literal but those of the list is marked
use Rattle.std.specs.Prelude.{ℕ, ◌≡◌, ◌<◌, ◌^◌, Bool, false, slice_index_or, List, length}
use Rattle.sat_rules.specs.Clauses.{has, var_of}
use Rattle.checker_rules.specs.State.{Known}

-- whether the literal is marked
abbrev pub is_marked : List Bool → ℕ → Bool
is_marked marks l = slice_index_or marks l false

-- there is a place for each literal of a known variable
abbrev pub HasPlaces : List Bool → List Known → Type 0
HasPlaces marks known = (l : ℕ) → l < 2 ^ 29 → var_of l < length known → l < length marks

-- no literal but those of the list is marked
abbrev pub MarksOnly : List Bool → List ℕ → Type 0
MarksOnly marks ls = (l : ℕ) → has l ls ≡ false → is_marked marks l ≡ false
