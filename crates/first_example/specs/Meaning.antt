-- What the verdict on two texts means.
--     Means cnf answer verdict      literals that are verified satisfy the formula
use Rattle.std.specs.Prelude.{◌≡◌, ℕ, List, Option, Some}
use Rattle.model_check.specs.Models.{IsSatisfiedBy}
use Rattle.model_check.specs.declared.verdict.Verdict.{Verdict}
use Rattle.model_check.specs.declared.verdict.Verdict.TheVariants.{NotVerified, Verified}

-- those of the answer, where the bytes of both are known
abbrev pub Means : Option (List ℕ) → Option (List ℕ) → Verdict → Type 0
Means cnf answer Verified = (text said : List ℕ)
    → cnf ≡ Some text
    → answer ≡ Some said
    → IsSatisfiedBy text said
Means cnf answer (NotVerified clause line) = Unit {0}
