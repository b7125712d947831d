-- Lines of verdicts on circuits.
use Rattle.std.specs.Prelude.{ℕ, List, [], ◌∷◌, ◌++◌, codes}
use Rattle.verdicts.specs.declared.verdict.Verdict.{Verdict}
use Rattle.verdicts.specs.declared.verdict.Verdict.TheVariants.{Verified, NotVerified}
use Rattle.circuit_check.specs.declared.line.Claim.{Claim}
use Rattle.circuit_check.specs.declared.line.Claim.TheVariants.{Never, Same, Safe}

-- the text of a verdict on a claim
abbrev pub text_of : Claim → Verdict → List ℕ
text_of Never Verified = codes "s VERIFIED NEVER"
text_of Same Verified = codes "s VERIFIED SAME"
text_of Safe Verified = codes "s VERIFIED SAFE"
text_of Never NotVerified = codes "s NOT VERIFIED"
text_of Same NotVerified = codes "s NOT VERIFIED"
text_of Safe NotVerified = codes "s NOT VERIFIED"

-- the text and a line feed
abbrev pub claim_line : Claim → Verdict → List ℕ
claim_line claim verdict = text_of claim verdict ++ 10 ∷ []
