-- What the numbers of binary lines say: an item, none at the 0 that ends a list, or a fault.
--     lit_said v, hint_said v      a literal, by its code;  a hint:  twice their number, and 1 more where it is negative
--     id_said ids v      an id of a line or of a deletion, in the encoding of ids
use Rattle.std.specs.Prelude.{ℕ, ◌-◌, ◌/◌, ◌%◌, ◌^◌, Option, Some, None, Result, Ok, Err, nat_lt, ◌==◌, if◌then◌else◌}
use Rattle.drat_text.specs.declared.fault.DratKind.{DratKind}
use Rattle.drat_text.specs.declared.fault.DratKind.TheVariants.{Malformed, NumberTooLarge}
use Rattle.lrat_text.specs.declared.line.Hint.{Hint}
use Rattle.lrat_text.specs.declared.line.Hint.TheVariants.{Along, Against}
use Rattle.lrat_binary.specs.declared.ids.Ids.{Ids}
use Rattle.lrat_binary.specs.declared.ids.Ids.TheVariants.{Plain, Doubled}

-- twice the number of the variable, and 1 more where the literal is negative
abbrev pub lit_said : ℕ → Result (Option ℕ) DratKind
lit_said v =
    if v == 0 then Ok None
    else (if v == 1 then Err Malformed
    else (if nat_lt (v - 2) (2 ^ 29) then Ok (Some (v - 2)) else Err NumberTooLarge))

-- twice the id, and 1 more where a group begins
abbrev pub hint_said : ℕ → Result (Option Hint) DratKind
hint_said v =
    if v == 0 then Ok None
    else (if v == 1 then Err Malformed
    else Ok (Some (if v % 2 == 0 then Along (v / 2) else Against (v / 2))))

-- no id, or this one
abbrev pub id_if : ℕ → Result (Option ℕ) DratKind
id_if id = if id == 0 then Ok None else Ok (Some id)

-- the id itself, or twice the id
abbrev pub id_said : Ids → ℕ → Result (Option ℕ) DratKind
id_said Plain v = id_if v
id_said Doubled v = if v % 2 == 1 then Err Malformed else id_if (v / 2)
