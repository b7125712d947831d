-- The clauses of small ids.
--     near_clause x i      the clause of an id, where it is there
--     place_count x      how many ids have places
--     IsTight x      the buffer has little that belongs to no clause
--     has_room x i n      there is room for a clause of n literals under the id
use Rattle.std.specs.Prelude.{ℕ, ◌+◌, ◌*◌, ◌^◌, ◌≤◌, ◌⊎◌, Bool, ◌&&◌, nat_le, nat_lt, List, get_or, length, Option}
use Rattle.clause_table.specs.Places.{in_use, lits_at}
use Rattle.clause_table.specs.declared.near.NearClauses.{NearClauses}

-- the clause of an id, where it is there
abbrev pub near_clause : NearClauses → ℕ → Option (List ℕ)
near_clause x i = lits_at x.lits.items (get_or x.places.items i 0)

-- how many ids have places
abbrev pub place_count : NearClauses → ℕ
place_count x = length x.places.items

-- the buffer has at most a third more than the clauses take, each its literals and its length, or at most one more for each place of an id
abbrev pub IsTight : NearClauses → Type 0
IsTight x = (3 * length x.lits.items ≤ 4 * in_use x.lits.items x.places.items)
    ⊎ (length x.lits.items ≤ in_use x.lits.items x.places.items + length x.places.items)

-- the id is greater than those with places, and the length of the clause and its place can be written
abbrev pub has_room : NearClauses → ℕ → ℕ → Bool
has_room x i n = nat_le (length x.places.items) i && nat_lt (length x.lits.items + 1) (2 ^ 32) && nat_lt n (2 ^ 29)
