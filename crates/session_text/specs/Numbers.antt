-- What numbers say.
--     with_digit v b      a digit after these
--     with_group v weight b      a group of seven bits after these
--     lit_said negative v, id_said negative v      a literal or an id, none at the 0 that ends a list, or a fault
--     code_said v      a binary number as a literal, the same
use Rattle.std.specs.Prelude.{ℕ, ◌+◌, ◌-◌, ◌*◌, ◌%◌, ◌^◌, min, Bool, Option, Some, None, Result, Ok, Err, nat_lt, ◌==◌, if◌then◌else◌}
use Rattle.sat_formula.specs.Bytes.{digit_zero}
use Rattle.sat_formula.specs.Vars.{lit_code}
use Rattle.session_text.specs.declared.fault.TextKind.{TextKind}
use Rattle.session_text.specs.declared.fault.TextKind.TheVariants.{Malformed, NumberTooLarge}

-- a digit after these; a value above 2^60 is kept only as such
abbrev pub with_digit : ℕ → ℕ → ℕ
with_digit v b = min v (2 ^ 60) * 10 + (b - digit_zero)

-- digits of this value, after a `-` or not, as a literal, by its code
abbrev pub lit_said : Bool → ℕ → Result (Option ℕ) TextKind
lit_said negative v =
    if v == 0 then (if negative then Err Malformed else Ok None)
    else (if nat_lt (2 ^ 28) v then Err NumberTooLarge else Ok (Some (lit_code v negative)))

-- the low seven bits of a byte, of this weight; no value is above 2^64 - 1
abbrev pub with_group : ℕ → ℕ → ℕ → ℕ
with_group v weight b = min (v + min ((b % 128) * weight) (2 ^ 64 - 1)) (2 ^ 64 - 1)

-- a binary number: twice the number of the variable, and 1 more where the literal is negative
abbrev pub code_said : ℕ → Result (Option ℕ) TextKind
code_said v =
    if v == 0 then Ok None
    else (if v == 1 then Err Malformed
    else (if nat_lt (v - 2) (2 ^ 29) then Ok (Some (v - 2)) else Err NumberTooLarge))

-- digits of this value as an id
abbrev pub id_said : Bool → ℕ → Result (Option ℕ) TextKind
id_said negative v =
    if negative then Err Malformed
    else (if nat_lt v (2 ^ 60) then (if v == 0 then Ok None else Ok (Some v)) else Err NumberTooLarge)
