-- Bytes of a text.
use Rattle.std.specs.Prelude.{ℕ, Bool, ◌&&◌, ◌||◌, nat_le, ◌==◌}

-- `c`, with which a comment begins
abbrev pub letter_c : ℕ
letter_c = 99

-- `%`, the end mark
abbrev pub percent_sign : ℕ
percent_sign = 37

-- `p`, with which a header begins
abbrev pub letter_p : ℕ
letter_p = 112

-- `-`
abbrev pub minus_sign : ℕ
minus_sign = 45

-- `0`
abbrev pub digit_zero : ℕ
digit_zero = 48

-- LF, which ends a line
abbrev pub is_lf : ℕ → Bool
is_lf b = b == 10

-- space, tab and CR
abbrev pub is_blank : ℕ → Bool
is_blank b = (b == 32) || (b == 9) || (b == 13)

-- `0` to `9`
abbrev pub is_digit : ℕ → Bool
is_digit b = nat_le digit_zero b && nat_le b 57
