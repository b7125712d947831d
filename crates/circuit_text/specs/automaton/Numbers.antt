-- Numbers of a circuit's text: digits in lines, and the binary numbers of gates.
--     digits_after digits b      what a byte is to digits of this value
--     number_after value weight b      what a byte is to a binary number
use Rattle.std.specs.Prelude.{ℕ, ◌^◌, ◌&&◌, Option, Some, None, if◌then◌else◌, nat_lt, unwrap_or}
use Rattle.sat_formula.specs.Bytes.{is_digit}
use Rattle.sat_formula.specs.Digits.{value_after}
use Rattle.drat_text.specs.Codes as codes
use Rattle.circuit_text.specs.declared.number.Digits.{Digits}
use Rattle.circuit_text.specs.declared.number.Digits.TheVariants as digits
use Rattle.circuit_text.specs.declared.number.Number.{Number}
use Rattle.circuit_text.specs.declared.number.Number.TheVariants as numbers

-- a byte that is no digit ends the digits before it, of which there has to be one
abbrev pub ended : Option ℕ → Digits
ended None = digits.Missing
ended (Some v) = digits.Whole v

-- digits of this value, or none, and one more byte
abbrev pub digits_after : Option ℕ → ℕ → Digits
digits_after value b =
    if is_digit b then digits.More (value_after (unwrap_or value 0) b) else ended value

-- what the bytes of a binary number say; a part of it is kept as numbers of 32 bits
abbrev pub number_of : codes.Code → Number
number_of (codes.Partial value weight) =
    if nat_lt value (2 ^ 32) && nat_lt weight (2 ^ 32) then numbers.Partial value weight else numbers.TooLong
number_of (codes.Whole n) = numbers.Whole n
number_of codes.TooLong = numbers.TooLong

-- bytes of this value, and one more byte, which has this weight; a number has five bytes at most
abbrev pub number_after : ℕ → ℕ → ℕ → Number
number_after value weight b = number_of (codes.code_after (2 ^ 28) value weight b)
