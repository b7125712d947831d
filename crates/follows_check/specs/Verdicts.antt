-- Verdicts on a formula and claims, their lines and their exit statuses.
--     shown_line verdict      the line, with its line feed
--     decides verdict      it says whether the claims follow
--     status_of verdict      its exit status
--     ended_of r      how a call ends that made this run
--     verdict_on refuted      the verdict on a proof
--     IsShown formula claims verdict      a verdict on a proof that says no more than is so
use Rattle.std.specs.Prelude.{ℕ, Bool, true, false, List, Result, Ok, Err, codes}
use Rattle.refutation_rules.specs.Follows.{Follows}
use Rattle.follows_check.specs.declared.verdict.Verdict.{Verdict}
use Rattle.follows_check.specs.declared.verdict.Verdict.TheVariants.{Follows as Follow, NotFollows, Open, Unmet, NoneFails}
use Rattle.verdicts.specs.declared.status.Refusal.{Refusal}
use Rattle.verdicts.specs.declared.status.Refusal.TheVariants.{Failed}

-- the text of a verdict and a line feed, as bytes
abbrev pub shown_line : Verdict → List ℕ
shown_line Follow = codes "s VERIFIED FOLLOWS\n"
shown_line (NotFollows claim line) = codes "s VERIFIED NOT FOLLOWS\n"
shown_line Open = codes "s NOT VERIFIED\n"
shown_line (Unmet clause line) = codes "s NOT VERIFIED\n"
shown_line NoneFails = codes "s NOT VERIFIED\n"

-- the claims follow, or one does not
abbrev pub decides : Verdict → Bool
decides Follow = true
decides (NotFollows claim line) = true
decides Open = false
decides (Unmet clause line) = false
decides NoneFails = false

-- 20 and 10 as solvers have them for what is refuted and what is satisfied, 3 where nothing is shown
abbrev pub status_of : Verdict → ℕ
status_of Follow = 20
status_of (NotFollows claim line) = 10
status_of Open = 3
status_of (Unmet clause line) = 3
status_of NoneFails = 3

-- a run without a verdict has failed
abbrev pub ended_of : {E : Type 0} → Result Verdict E → Result ℕ Refusal
ended_of (Ok verdict) = Ok (status_of verdict)
ended_of (Err fault) = Err Failed

-- the verdict on a proof, by whether it refutes the formula for the solver
abbrev pub verdict_on : Bool → Verdict
verdict_on true = Follow
verdict_on false = Open

-- a proof shows that the claims follow, or nothing
abbrev pub IsShown : List (List ℕ) → List (List ℕ) → Verdict → Type 0
IsShown formula claims Follow = Follows formula claims
IsShown formula claims (NotFollows claim line) = ⊥
IsShown formula claims Open = Unit {0}
IsShown formula claims (Unmet clause line) = ⊥
IsShown formula claims NoneFails = ⊥
