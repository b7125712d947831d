-- What the verdict on a call's files means.
--     Means files input call verdict      a formula that is refuted can't be satisfied
use Rattle.std.specs.Prelude.{◌≡◌, ℕ, List, [], ◌∷◌, Option, Some, codes, false}
use Rattle.command.specs.Calls.{choices_of, is_given, operands_of}
use Rattle.command.specs.Inputs.{bytes_named}
use Rattle.command.specs.declared.call.Call.{Call}
use Rattle.sat_formula.specs.Refuted.{IsRefuted}
use Rattle.verdicts.specs.declared.verdict.Verdict.{Verdict}
use Rattle.verdicts.specs.declared.verdict.Verdict.TheVariants.{NotVerified, Verified}

-- of the formula that the call names first, if its bytes are known
abbrev pub Means : (List ℕ → Option (List ℕ)) → Option (List ℕ) → Call → Verdict → Type 0
Means files input call Verified = (cnf lines text : List ℕ)
    → operands_of call ≡ cnf ∷ lines ∷ []
    → is_given (choices_of call) (codes "--example") ≡ false
    → bytes_named files input cnf ≡ Some text
    → IsRefuted text
Means files input call NotVerified = Unit {0}
