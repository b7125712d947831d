-- Runs of a proof or an answer after a formula and claims.
--     IsProofRun cnf claims r      a verdict on the proof, or why there is none
--     verdict_of judgment failing      the verdict on an answer
--     IsAnswerRun cnf claims answer r      a verdict on the answer, or why there is none
--     IsUnasked cnf claims contents old new fault      why the formula for the solver was not written whole
use Rattle.std.specs.Prelude.{◌≡◌, ℕ, List, Option, Some, None, Result, Ok, Err}
use Rattle.sat_output.specs.FormulaTexts.{formula_text}
use Rattle.whole_writes.specs.Beginnings.{AppendsBeginning}
use Rattle.answer_text.specs.Answers.{Lists}
use Rattle.answer_text.specs.Literals.{IsConsistent, listed}
use Rattle.answer_text.specs.Reading.{FailsBy, IsOutcome}
use Rattle.refutation_rules.specs.Follows.{follow_clauses}
use Rattle.model_check.specs.Verdicts as models
use Rattle.model_check.specs.Verdicts.{FailsText}
use Rattle.model_check.specs.declared.verdict.Verdict.{Verdict as Judgment}
use Rattle.model_check.specs.declared.verdict.Verdict.TheVariants as judgments
use Rattle.follows_check.specs.Answers.{IsJudged}
use Rattle.follows_check.specs.Questions.{FailsClaims, FailsQuestion, OfQuestion, first_free}
use Rattle.follows_check.specs.Verdicts.{IsShown}
use Rattle.follows_check.specs.declared.fault.QuestionFault.{QuestionFault}
use Rattle.follows_check.specs.declared.fault.QuestionFault.TheVariants.{Formula, Claims, FewClaims, NoClaim, ManyVariables, OutOfMemory}
use Rattle.follows_check.specs.declared.fault.RunFault.{RunFault}
use Rattle.follows_check.specs.declared.fault.RunFault.TheVariants.{Question, Proof, Answer, Cut}
use Rattle.follows_check.specs.declared.failing.Failing.{Failing}
use Rattle.follows_check.specs.declared.verdict.Verdict.{Verdict}
use Rattle.follows_check.specs.declared.verdict.Verdict.TheVariants.{NotFollows, Unmet, NoneFails}
use Rattle.verdicts.specs.declared.shown.Unshown.{Unshown}
use Rattle.verdicts.specs.declared.shown.Unshown.TheVariants.{Fault, Write}

-- ---- a proof

-- the fault of the formula or the claims, then a fault of the proof, then the verdict
abbrev pub IsProofRun : Option (List ℕ) → Option (List ℕ) → Result Verdict RunFault → Type 0
IsProofRun cnf claims (Ok verdict) = OfQuestion cnf claims (λ formula claimed. IsShown formula claimed verdict)
IsProofRun cnf claims (Err (Question fault)) = FailsQuestion cnf claims fault
IsProofRun cnf claims (Err (Proof fault)) = OfQuestion cnf claims (λ formula claimed. Unit {0})
IsProofRun cnf claims (Err (Answer fault)) = ⊥
IsProofRun cnf claims (Err (Cut cut)) = ⊥

-- ---- an answer

-- the verdict, by what was found of the formula and of the claims
abbrev pub verdict_of : Judgment → Option Failing → Verdict
verdict_of judgments.Verified (Some failing) = NotFollows failing.claim failing.line
verdict_of judgments.Verified None = NoneFails
verdict_of (judgments.NotVerified clause line) failing = Unmet clause line

-- the answer lists literals of which no two are opposite, and this holds of them
pub record OfAnswer (answer : Option (List ℕ)) (P : List ℕ → Type 0) : Type 0 where
  pub lits : List ℕ
  pub lists : IsOutcome answer (Lists lits)
  pub apart : IsConsistent (listed lits)
  pub holds : P lits

-- the formula is whole, and the verdict is that on it, the claims and these literals
pub record IsAnswered (cnf claims : Option (List ℕ)) (verdict : Verdict) (lits : List ℕ) : Type 0 where
  pub judgment : Judgment
  pub formula : models.IsJudged cnf (listed lits) judgment None
  pub failing : Option Failing
  pub claimed : IsJudged claims (listed lits) failing
  pub is : verdict ≡ verdict_of judgment failing

-- the formula is whole, and the claims have this fault
pub record IsUnclaimed (cnf claims : Option (List ℕ)) (fault : QuestionFault) (lits : List ℕ) : Type 0 where
  pub judgment : Judgment
  pub formula : models.IsJudged cnf (listed lits) judgment None
  pub fails : FailsClaims claims fault

-- the formula or the claims have this fault
abbrev pub IsUnread : Option (List ℕ) → Option (List ℕ) → QuestionFault → List ℕ → Type 0
IsUnread cnf claims (Formula fault) lits = FailsText cnf fault
IsUnread cnf claims (Claims fault) lits = IsUnclaimed cnf claims (Claims fault) lits
IsUnread cnf claims FewClaims lits = IsUnclaimed cnf claims FewClaims lits
IsUnread cnf claims NoClaim lits = IsUnclaimed cnf claims NoClaim lits
IsUnread cnf claims ManyVariables lits = ⊥
IsUnread cnf claims OutOfMemory lits = ⊥

-- the fault of the answer, then that of the formula, then what is missing of it, then that of the claims, then the verdict
abbrev pub IsAnswerRun : Option (List ℕ) → Option (List ℕ) → Option (List ℕ) → Result Verdict RunFault → Type 0
IsAnswerRun cnf claims answer (Ok verdict) = OfAnswer answer (IsAnswered cnf claims verdict)
IsAnswerRun cnf claims answer (Err (Question fault)) = OfAnswer answer (IsUnread cnf claims fault)
IsAnswerRun cnf claims answer (Err (Proof fault)) = ⊥
IsAnswerRun cnf claims answer (Err (Answer fault)) = FailsBy answer fault
IsAnswerRun cnf claims answer (Err (Cut cut)) =
    OfAnswer answer (λ lits. (judgment : Judgment) × models.IsJudged cnf (listed lits) judgment (Some cut))

-- ---- the formula for the solver

-- a beginning of its text was written
abbrev pub BeginsQuestion : Option (List ℕ) → Option (List ℕ) → Option (List ℕ) → Option (List ℕ) → Type 0
BeginsQuestion cnf claims old new = OfQuestion cnf claims (λ formula claimed.
    AppendsBeginning old new (formula_text (follow_clauses (first_free formula claimed) formula claimed)))

-- the formula or the claims were rejected, and nothing was written; or a beginning was
abbrev pub IsUnasked : {W : Type 0} → Option (List ℕ) → Option (List ℕ) → (W → Option (List ℕ)) → W → W → Unshown QuestionFault → Type 0
IsUnasked cnf claims contents old new (Fault fault) = FailsQuestion cnf claims fault × (new ≡ old)
IsUnasked cnf claims contents old new (Write cause) = BeginsQuestion cnf claims (contents old) (contents new)
