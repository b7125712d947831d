-- What numbers say: a literal, none at the 0 that ends the literals, or a fault.
use Rattle.std.specs.Prelude.{ℕ, ◌^◌, Bool, Option, Some, None, Result, Ok, Err, nat_lt, ◌==◌, if◌then◌else◌}
use Rattle.sat_formula.specs.Vars.{lit_code}
use Rattle.answer_text.specs.declared.fault.AnswerKind.{AnswerKind}
use Rattle.answer_text.specs.declared.fault.AnswerKind.TheVariants.{Malformed, NumberTooLarge}

-- digits of this value, after a `-` or not; the literal is given by its code
abbrev pub lit_said : Bool → ℕ → Result (Option ℕ) AnswerKind
lit_said negative v =
    if v == 0 then (if negative then Err Malformed else Ok None)
    else (if nat_lt (2 ^ 28) v then Err NumberTooLarge else Ok (Some (lit_code v negative)))
