-- Rejections, and what follows for the parts of a checker.
use Rattle.std.specs.Result.{OnErr, OnOk}
use Rattle.std.proofs.Common.{◌≡◌, List, None, Some, Result, Ok, Err}
use Rattle.checker_rules.specs.Outcome.{Cause, Outcome, refuse}
use Rattle.checker_rules.specs.State.{Known, State}
use Rattle.checker_rules.specs.Step.{Step}
use Rattle.checker_rules.specs.Steps.{step}
use Rattle.checker_rules.specs.WellFormed.{WellFormed}
use Rattle.checker_parts.specs.Faults.{AnswersOutcome, UnlessStopped}
use Rattle.checker_parts.specs.declared.error.StepFault.{StepFault}
use Rattle.checker_parts.specs.declared.error.StepFault.TheVariants.{Refused, OutOfMemory}
use Rattle.clause_store.specs.declared.clauses.Clauses.{Clauses}
use Rattle.clause_store.specs.declared.hash.ClauseHasher.{ClauseHasher}
use Rattle.clause_store.specs.declared.state.CheckerState.{CheckerState}
use Rattle.clause_store.specs.PartsInvariant.{PartsInvariant}
use Rattle.clause_store.specs.StateOf.{state_of}
use Rattle.clause_store.specs.Store.{IsStore}
use Rattle.checker_rules.proofs.StepForms.{steps_keep_form}

-- a rejection answers an outcome that rejects with its cause
pub answers-refuse : (cause : Cause) (o : Outcome) (s t : State) → o ≡ refuse cause s → t ≡ s → (o.refused ≡ Some cause) × (t ≡ o.after)
answers-refuse cause o s t is same = (cc, cc)

-- accepted, or out of memory
pub answers-unless-memory : (r : Result (Unit {0}) StepFault) (o : Outcome) (s : State) →
    OnOk r ((o.refused ≡ None) × (s ≡ o.after)) → OnErr r (r ≡ Err OutOfMemory) → AnswersOutcome r o s
answers-unless-memory (Ok done) o s h e = h
answers-unless-memory (Err (Refused cause)) o s h e = absurd cc
answers-unless-memory (Err other) o s h e = tt

-- the rejection of a part is that of the whole
pub answers-part : (e : StepFault) (o p : Outcome) (s : State) → ((cause : Cause) → o.refused ≡ Some cause → p ≡ refuse cause o.after) →
    AnswersOutcome {A = Unit {0}} (Err e) o s → AnswersOutcome {A = Unit {0}} (Err e) p s
answers-part (Refused cause) o p s f h = let e = f _ h.0 in (cc (e), cc (e))
answers-part other o p s f h = tt

-- the form of the outcome, whatever the answer
pub form-answer : {A : Type 0} (r : Result A StepFault) (o : Outcome) (s : State) → WellFormed o.after → AnswersOutcome r o s →
    UnlessStopped r (WellFormed s)
form-answer (Ok done) o s k h = rw h.1 k
form-answer (Err (Refused cause)) o s k h = rw h.1 k
form-answer (Err other) o s k h = tt

-- two facts at once
pub unless-both : {A : Type 0} {P Q R : Type 0} (r : Result A StepFault) → (P → Q → R) → UnlessStopped r P → UnlessStopped r Q → UnlessStopped r R
unless-both (Ok done) f p q = f p q
unless-both (Err (Refused cause)) f p q = f p q
unless-both (Err other) f p q = tt

-- what the parts keep, from the answer of a step
pub kept-answer : {A : Type 0} (r : Result A StepFault) (st st' : CheckerState) (h h' : ClauseHasher) (cs cs' : Clauses) (known known' : List Known) (t : Step) →
    PartsInvariant st h cs known → AnswersOutcome r (step (state_of st h cs known) t) (state_of st' h' cs' known') →
    UnlessStopped r (IsStore h' cs') → UnlessStopped r (PartsInvariant st' h' cs' known')
kept-answer r st st' h h' cs cs' known known' t kept answers store =
    unless-both r (λ form store. record { form = form; store = store })
    (form-answer r _ _ (steps_keep_form _ t kept.form) answers) store
