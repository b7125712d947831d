-- What a run does not decide.
use Rattle.std.proofs.Common.{◌≡◌, ℕ, List, Option, Some, None}
use Rattle.follows_check.specs.Runs.{IsAnswered, verdict_of}
use Rattle.follows_check.specs.declared.failing.Failing.{Failing}
use Rattle.follows_check.specs.declared.verdict.Verdict.TheVariants.{Follows}
use Rattle.model_check.specs.declared.verdict.Verdict.{Verdict as Judgment}
use Rattle.model_check.specs.declared.verdict.Verdict.TheVariants as judgments

never_follows : (judgment : Judgment) (failing : Option Failing) → Follows ≡ verdict_of judgment failing → ⊥
never_follows judgments.Verified (Some claim) e = absurd cc
never_follows judgments.Verified None e = absurd cc
never_follows (judgments.NotVerified clause line) failing e = absurd cc

-- no answer shows that claims follow
pub answer_decides : (cnf claims : Option (List ℕ)) (lits : List ℕ) → IsAnswered cnf claims Follows lits → ⊥
answer_decides cnf claims lits h = never_follows h.judgment h.failing h.is
