-- What the verdict on a call's files means.
--     MeansByReceipts files input cnf receipts verdict      receipts that show a formula refute it
--     MeansByParts files input cnf receipts cubes verdict      the same of those of the parts of a formula
--     Means files input call verdict      one of both, by whether the call names cubes
use Rattle.std.specs.Prelude.{◌≡◌, ℕ, List, [], ◌∷◌, Option, Some, None, codes, false}
use Rattle.command.specs.Calls.{choices_of, is_given, operands_of, value_given}
use Rattle.command.specs.Inputs.{bytes_named}
use Rattle.command.specs.declared.call.Call.{Call}
use Rattle.join_check.specs.Texts.{IsRefutedByParts, IsRefutedByReceipts}
use Rattle.join_check.specs.declared.verdict.Verdict.{Verdict}
use Rattle.join_check.specs.declared.verdict.Verdict.TheVariants.{NotVerified, Verified}

-- of the files of these names, if their bytes are known
abbrev pub MeansByReceipts : (List ℕ → Option (List ℕ)) → Option (List ℕ) → List ℕ → List ℕ → Verdict → Type 0
MeansByReceipts files input cnf receipts (Verified count) = (text said : List ℕ)
    → bytes_named files input cnf ≡ Some text
    → bytes_named files input receipts ≡ Some said
    → IsRefutedByReceipts said text
MeansByReceipts files input cnf receipts (NotVerified unshown) = Unit {0}

-- the cubes are those of a file, also if its name is `-`
abbrev pub MeansByParts : (List ℕ → Option (List ℕ)) → Option (List ℕ) → List ℕ → List ℕ → List ℕ → Verdict → Type 0
MeansByParts files input cnf receipts cubes (Verified count) = (text split said : List ℕ)
    → bytes_named files input cnf ≡ Some text
    → files cubes ≡ Some split
    → bytes_named files input receipts ≡ Some said
    → IsRefutedByParts said split text
MeansByParts files input cnf receipts cubes (NotVerified unshown) = Unit {0}

-- of the formula that the call names first, and of the receipts that it names next
abbrev pub Means : (List ℕ → Option (List ℕ)) → Option (List ℕ) → Call → Verdict → Type 0
Means files input call verdict = (cnf receipts : List ℕ)
    → operands_of call ≡ cnf ∷ receipts ∷ []
    → is_given (choices_of call) (codes "--example") ≡ false
    → (value_given (choices_of call) (codes "--cubes") ≡ None
    → MeansByReceipts files input cnf receipts verdict)
    × ((cubes : List ℕ) → value_given (choices_of call) (codes "--cubes") ≡ Some cubes
    → MeansByParts files input cnf receipts cubes verdict)
