-- Classes of bytes, and the bytes in front that are of one.
--     is_of class b      the byte is of the class
--     leading test bytes, behind test bytes      the bytes in front that pass the test, and what follows them
use Rattle.std.specs.Prelude.{ℕ, Bool, not, ◌&&◌, ◌||◌, List, [], ◌∷◌, nat_le, ◌==◌, if◌then◌else◌}
use Rattle.sat_formula.specs.Bytes.{is_digit}
use Rattle.index_text.specs.declared.class.Class.{Class}
use Rattle.index_text.specs.declared.class.Class.TheVariants.{Space, Digit, Name, Architecture, Sign, Version, EpochVersion, FieldName, Only, Not}

-- `a` to `z` or a digit
abbrev pub is_lower : ℕ → Bool
is_lower b = (nat_le 97 b && nat_le b 122) || is_digit b

-- a letter, a digit, or one of `.+~-`
abbrev pub is_in_version : ℕ → Bool
is_in_version b = is_lower b || (nat_le 65 b && nat_le b 90) || (b == 46) || (b == 43) || (b == 126) || (b == 45)

-- the byte is of the class: space, tab and LF; digits; of a package's name; of an architecture's name; `<`, `=` and `>`;
-- of a version that has no epoch; of one that may have one; of a field's name, 33 to 126 but `:`; this byte; any other one
abbrev pub is_of : Class → ℕ → Bool
is_of Space b = (b == 32) || (b == 9) || (b == 10)
is_of Digit b = is_digit b
is_of Name b = is_lower b || (b == 43) || (b == 45) || (b == 46)
is_of Architecture b = is_lower b || (b == 45)
is_of Sign b = (b == 60) || (b == 61) || (b == 62)
is_of Version b = is_in_version b
is_of EpochVersion b = is_in_version b || (b == 58)
is_of FieldName b = nat_le 33 b && nat_le b 126 && not (b == 58)
is_of (Only one) b = b == one
is_of (Not other) b = not (b == other)

-- the bytes in front that pass the test
abbrev pub leading : (ℕ → Bool) → List ℕ → List ℕ
leading test [] = []
leading test (b ∷ bs) = if test b then b ∷ leading test bs else []

-- what follows them
abbrev pub behind : (ℕ → Bool) → List ℕ → List ℕ
behind test [] = []
behind test (b ∷ bs) = if test b then behind test bs else b ∷ bs
