-- Literals by their DIMACS numbers.
--     is_lit n, lit_of n      the number is that of a literal;  the code of that literal
--     are_lits ns, lits_of ns      all of them are;  their literals
--     IsUnread fault readable      some number is no literal, or memory ran out
use Rattle.std.specs.Prelude.{◌≡◌, ℕ, ℤ, pos, ◌^◌, Bool, false, ◌&&◌, List, map, int_lt, nat_le, nat_lt, unsigned_abs}
use Rattle.std.specs.List.{list_all}
use Rattle.sat_formula.specs.Vars.{lit_code}
use Rattle.handles.specs.declared.lits.LitsFault.{LitsFault}
use Rattle.handles.specs.declared.lits.LitsFault.TheVariants.{NoLit, OutOfMemory}

-- its absolute value is from 1 to 2^28
abbrev pub is_lit : ℤ → Bool
is_lit n = nat_lt 0 (unsigned_abs n) && nat_le (unsigned_abs n) (2 ^ 28)

-- the literal of the absolute value, negative where the number is
abbrev pub lit_of : ℤ → ℕ
lit_of n = lit_code (unsigned_abs n) (int_lt n (pos 0))

-- all are numbers of literals
abbrev pub are_lits : List ℤ → Bool
are_lits ns = list_all is_lit ns

-- the literals of the numbers, in their order
abbrev pub lits_of : List ℤ → List ℕ
lits_of ns = map lit_of ns

-- some number is no literal, or memory ran out
abbrev pub IsUnread : LitsFault → Bool → Type 0
IsUnread NoLit readable = readable ≡ false
IsUnread OutOfMemory readable = Unit {0}
