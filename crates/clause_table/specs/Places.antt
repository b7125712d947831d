-- Places of clauses in a buffer: each clause is there after its length, and its place is that of its first literal, or 0 where it has none.
--     len_at lits p      how many literals the clause of a place has
--     lits_at lits p      the literals of a place, where it is one
--     size_at lits p      how much of the buffer its clause takes, with the length
--     in_use lits places      how much the clauses of the places take in all
--     are_rising lits low places      the clauses are in the buffer one after the other, from `low` on
use Rattle.std.specs.Prelude.{ℕ, ◌+◌, ◌-◌, ◌==◌, ◌&&◌, Bool, nat_le, nat_lt, if◌then◌else◌, List, [], ◌∷◌, get_or, length, slice_range, Option, Some, None}
use Rattle.std.specs.List.{sum_by}

-- how many literals the clause has: it comes before the first
abbrev pub len_at : List ℕ → ℕ → ℕ
len_at lits p = get_or lits (p - 1) 0

-- the literals of a place, where it is one
abbrev pub lits_at : List ℕ → ℕ → Option (List ℕ)
lits_at lits p = if p == 0 then None else Some (slice_range lits p (p + len_at lits p))

-- how much of the buffer the clause takes, with its length
abbrev pub size_at : List ℕ → ℕ → ℕ
size_at lits p = if p == 0 then 0 else len_at lits p + 1

-- how much the clauses of the places take in all
abbrev pub in_use : List ℕ → List ℕ → ℕ
in_use lits places = sum_by (size_at lits) places

-- the clauses are in the buffer one after the other, in the order of their places and from `low` on
abbrev pub are_rising : List ℕ → ℕ → List ℕ → Bool
are_rising lits low [] = nat_le low (length lits)
are_rising lits low (p ∷ ps) = if p == 0 then are_rising lits low ps
    else nat_lt low p && are_rising lits (p + len_at lits p) ps
