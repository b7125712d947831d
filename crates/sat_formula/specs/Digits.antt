-- Bytes that end a word, and the value of a variable's digits.
--     ends_word b           a blank or an LF
--     value_after v b       the value of digits, those of the value v and one more
use Rattle.std.specs.Prelude.{ℕ, ◌+◌, ◌-◌, ◌*◌, ◌^◌, min, Bool, ◌||◌}
use Rattle.sat_formula.specs.Bytes.{digit_zero, is_blank, is_lf}

-- a blank or an LF
abbrev pub ends_word : ℕ → Bool
ends_word b = is_blank b || is_lf b

-- a value above 2^28, which no variable has, is kept only as such
abbrev pub value_after : ℕ → ℕ → ℕ
value_after v b = min v (2 ^ 28 + 1) * 10 + (b - digit_zero)
