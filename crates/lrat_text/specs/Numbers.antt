-- Numbers, by their words.
use Rattle.std.specs.Prelude.{ℕ, ◌^◌, Bool, true, false, ◌&&◌, List, [], ◌∷◌, Option, Some, None, nat_lt, ◌==◌, if◌then◌else◌}
use Rattle.sat_formula.specs.Bytes.{minus_sign}
use Rattle.sat_formula.specs.Lines.{value_of}
use Rattle.lrat_text.specs.declared.number.Number.{Number}
use Rattle.lrat_text.specs.declared.number.Number.TheVariants as numbers

-- a value that fits 64 bits
abbrev pub capped : ℕ → Option ℕ
capped v = if nat_lt v (2 ^ 64) then Some v else None

-- digits of this value, if it fits, after a `-` or not; -0 is no number
abbrev pub signed : Bool → Option ℕ → Number
signed negative None = numbers.Large
signed negative (Some v) = if negative && (v == 0) then numbers.Bad else numbers.Exact negative v

-- the number of digits that have this value; of a word without one, no number
abbrev pub judged : Bool → Option ℕ → Number
judged negative None = numbers.Bad
judged negative (Some v) = signed negative (capped v)

-- what a word says as a number
abbrev pub number_of : List ℕ → Number
number_of [] = numbers.Bad
number_of (b ∷ bs) = if b == minus_sign then judged true (value_of bs)
    else judged false (value_of (b ∷ bs))
