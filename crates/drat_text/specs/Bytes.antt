-- Bytes of a proof.
use Rattle.std.specs.Prelude.{ℕ, Bool, ◌&&◌, ◌||◌, List, nat_le, ◌==◌, if◌then◌else◌}
use Rattle.std.specs.List.{list_all}
use Rattle.sat_formula.specs.Bytes.{letter_c, percent_sign, is_blank, is_lf}
use Rattle.drat_text.specs.declared.bytes.Format.{Format}
use Rattle.drat_text.specs.declared.bytes.Format.TheVariants.{Text, Binary}

-- `a`, with which a binary step begins that adds its clause
abbrev pub letter_a : ℕ
letter_a = 97

-- `d`, with which a step begins that deletes its clause
abbrev pub letter_d : ℕ
letter_d = 100

-- `c` or `%`, with which a comment of DRAT begins
abbrev pub begins_comment : ℕ → Bool
begins_comment b = b == letter_c || (b == percent_sign)

-- what is between the words of a text: a blank or an LF
abbrev pub is_space : ℕ → Bool
is_space b = is_blank b || is_lf b

-- what a text can have: these, and from the space to `~`
abbrev pub is_text_byte : ℕ → Bool
is_text_byte b = is_space b || (nat_le 32 b && nat_le b 126)

-- text, where text can have each of the bytes
abbrev pub by_text_bytes : List ℕ → Format
by_text_bytes bytes = if list_all is_text_byte bytes then Text else Binary
