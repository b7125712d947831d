-- What the verdict on a call's files means.
--     Means files input call Kept Unnamed verdict      literals that are verified satisfy the formula
use Rattle.std.specs.Prelude.{◌≡◌, ℕ, List, [], ◌∷◌, Option, Some, codes, false}
use Rattle.command.specs.Calls.{choices_of, is_given, operands_of}
use Rattle.command.specs.Inputs.{bytes_named}
use Rattle.command.specs.declared.call.Call.{Call}
use Rattle.model_check.specs.Models.{IsSatisfiedBy}
use Rattle.model_check.specs.declared.verdict.Verdict.{Verdict}
use Rattle.model_check.specs.declared.verdict.Verdict.TheVariants.{NotVerified, Verified}
use Rattle.receipt_files.specs.Named.{satisfied_of}
use Rattle.receipts.specs.declared.receipt.Receipt.{Receipt}

-- of the formula and the answer that the call names, where their bytes are known; the receipt that says it is kept. A verdict that shows nothing
-- gives no file a name
abbrev pub Means : (List ℕ → Option (List ℕ)) → Option (List ℕ) → Call
    → (Receipt → Type 0) → Type 0 → Verdict → Type 0
Means files input call Kept Unnamed Verified = (cnf answer text : List ℕ)
    → operands_of call ≡ cnf ∷ answer ∷ []
    → is_given (choices_of call) (codes "--example") ≡ false
    → bytes_named files input cnf ≡ Some text
    → ((said : List ℕ) → bytes_named files input answer ≡ Some said → IsSatisfiedBy text said)
    × Kept (satisfied_of text)
Means files input call Kept Unnamed (NotVerified clause line) = Unnamed
