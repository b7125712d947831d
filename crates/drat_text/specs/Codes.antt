-- The bytes of a binary number: seven bits each, the low ones first, up to a byte below 128.
--     code_after      what one byte says of a number
--     code_at      what bytes say of a number, and the bytes after it
use Rattle.std.specs.Prelude.{ℕ, ◌+◌, ◌*◌, ◌%◌, List, [], ◌∷◌, nat_lt, ◌==◌, if◌then◌else◌}

-- groups of this value, before one of this weight; a number; or one of too many bytes
pub data Code : Type 0 where
  Partial : ℕ → ℕ → Code
  Whole : ℕ → Code
  TooLong : Code

-- the seven bits of a byte, of this weight, after groups of this value; none comes after one of the last weight
abbrev pub code_after : ℕ → ℕ → ℕ → ℕ → Code
code_after last v weight b =
    let value = v + (b % 128) * weight in
    if nat_lt b 128 then Whole value
    else (if weight == last then TooLong else Partial value (weight * 128))

-- what bytes say, after groups of this value, from this weight on; and the bytes after the number
unfoldable pub code_at : ℕ → ℕ → ℕ → List ℕ → Code × List ℕ
code_at last v weight [] = (Partial v weight, [])
code_at last v weight (b ∷ bs) = elim (code_after last v weight b) [
  | Partial value next ↦ code_at last value next bs
  | Whole n ↦ (Whole n, bs)
  | TooLong ↦ (TooLong, bs)
]
