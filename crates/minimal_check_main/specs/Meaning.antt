-- What the verdict on a call's files means.
--     MeansOf files input core verdict      a formula that is shown to be minimal is
--     Means files input call verdict      the same of the formula that a call names
use Rattle.std.specs.Prelude.{◌≡◌, ℕ, List, [], ◌∷◌, Option, Some, codes, false}
use Rattle.command.specs.Calls.{choices_of, is_given, operands_of}
use Rattle.command.specs.Inputs.{bytes_named}
use Rattle.command.specs.declared.call.Call.{Call}
use Rattle.follows_check.specs.Minimal.{IsMinimalText}
use Rattle.follows_check.specs.declared.minimal.MinimalVerdict.{MinimalVerdict}
use Rattle.follows_check.specs.declared.minimal.MinimalVerdict.TheVariants.{Minimal, NoModel, Open, Unmet}

-- of the file of this name, if its bytes are known
abbrev pub MeansOf : (List ℕ → Option (List ℕ)) → Option (List ℕ) → List ℕ → MinimalVerdict → Type 0
MeansOf files input core Minimal =
    (text : List ℕ) → bytes_named files input core ≡ Some text → IsMinimalText text
MeansOf files input core Open = Unit {0}
MeansOf files input core (NoModel clause) = Unit {0}
MeansOf files input core (Unmet model clause) = Unit {0}

-- of the file that it names first
abbrev pub Means : (List ℕ → Option (List ℕ)) → Option (List ℕ) → Call → MinimalVerdict → Type 0
Means files input call verdict = (core proof models : List ℕ)
    → operands_of call ≡ core ∷ proof ∷ models ∷ []
    → is_given (choices_of call) (codes "--example") ≡ false
    → MeansOf files input core verdict
