-- What a number says as a token.
use Rattle.std.specs.Prelude.{ℕ, ◌^◌, Bool, nat_lt, ◌==◌, if◌then◌else◌}
use Rattle.sat_formula.specs.declared.fault.DimacsKind.TheVariants.{BadNumber, VarTooLarge}
use Rattle.sat_formula.specs.declared.word.Token.{Token}
use Rattle.sat_formula.specs.declared.word.Token.TheVariants.{Zero, Literal, Wrong}
use Rattle.sat_formula.specs.Vars.{lit_code}

-- digits with this value, with a `-` before them or not: the end of a clause, a literal, or a wrong token
abbrev pub value_token : Bool → ℕ → Token
value_token negative v =
    if v == 0 then (if negative then Wrong BadNumber else Zero)
    else (if nat_lt (2 ^ 28) v then Wrong VarTooLarge else Literal (lit_code v negative))
