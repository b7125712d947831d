-- For which literals and ids tables have places.
--     spare_lits, gets_room stored l      there is a place for the literal, after this many literals
--     spare_places, gets_place stored i      there is one for the clause of the id, after this many clauses
use Rattle.std.specs.Prelude.{ℕ, ◌+◌, ◌-◌, ◌/◌, ◌^◌, min, Bool, ◌&&◌, nat_le, nat_lt}

-- how many literals have places before any is stored
abbrev pub spare_lits : ℕ
spare_lits = 2 ^ 14

-- its code is at most four times the number of literals that were stored, spare ones aside
abbrev pub gets_room : ℕ → ℕ → Bool
gets_room stored l = nat_le (l / 4) (min (stored + spare_lits) (2 ^ 64 - 1))

-- how many clauses have places before any is stored
abbrev pub spare_places : ℕ
spare_places = 2 ^ 12

-- an id below 2 ^ 40 that is at most four times the number of clauses, spare places aside
abbrev pub gets_place : ℕ → ℕ → Bool
gets_place stored i = nat_lt i (2 ^ 40) && nat_le (i / 4) (min (stored + spare_places) (2 ^ 64 - 1))
