-- What the checker's calls say, as calls of a handle.
--     keeps      what holds of the steps and the state before holds after the call
--     starts_fold      a new checker is that of no steps
use Rattle.std.proofs.Common.{◌≡◌, Bool, true, false, List, [], Result, Ok, Err, refl, subst, sym}
use Rattle.checker_rules.specs.Headline.{holds}
use Rattle.checker_rules.specs.State.{State, sat}
use Rattle.checker_rules.specs.Step.{Step}
use Rattle.checker_rules.specs.Steps.{new_state}
use Rattle.checker_parts.specs.Answers.{IsFold, UnlessFailed as UnlessChecker, with_accepted}
use Rattle.checker_parts.specs.declared.error.CheckerError.{CheckerError}
use Rattle.checker_parts.specs.declared.error.CheckerError.TheVariants as errors
use Rattle.handles.specs.CheckerCalls.{UnlessFailed, passed, with_step}
use Rattle.handles.specs.declared.checker_fault.CallFault.{CallFault}

abbrev pub Answer : Type 0
Answer = Result (Unit {0}) CheckerError

-- by whether the checker had failed
either : (b : Bool) (Q : Type 0) → (b ≡ true → Q) → (b ≡ false → Q) → Q
either true Q f w = f refl
either false Q f w = w refl

kept : (P : List Step → State → Type 0) (s' : State) (t : Step) (before : List Step) (r : Answer) → UnlessChecker r (P (with_accepted r before t) s') →
    UnlessFailed (passed r) (P (with_step (passed r) before t) s')
kept P s' t before (Ok done) h = h
kept P s' t before (Err (errors.CheckFailed number cause text)) h = h
kept P s' t before (Err errors.OutOfMemory) h = tt
kept P s' t before (Err (errors.ProofProcessorError cause)) h = tt
kept P s' t before (Err errors.Failed) h = tt
kept P s' t before (Err (errors.ProofIncomplete number)) h = tt
kept P s' t before (Err (errors.IoError number cause)) h = tt
kept P s' t before (Err (errors.ParseError number kind)) h = tt

-- of a step that is u for the checker and t for the caller, and answered r by the one and x by the other
pub keeps : (P : List Step → State → Type 0) (b : Bool) (s' : State) (t u : Step) (before : List Step) (r : Answer) (x : Result (Unit {0}) CallFault) →
    u ≡ t → x ≡ passed r → (b ≡ true → r ≡ Err errors.Failed) → (b ≡ false → UnlessChecker r (P (with_accepted r before u) s')) →
    UnlessFailed x (P (with_step x before t) s')
keeps P b s' t u before r x same is f w =
    let after = either b (UnlessFailed (passed r) (P (with_step (passed r) before u) s'))
    (λ e. subst (λ (y : Answer). UnlessFailed (passed y) (P (with_step (passed y) before u) s')) (sym (f e)) tt)
    (λ e. kept P s' u before r (w e)) in
    subst (λ (y : Result (Unit {0}) CallFault). UnlessFailed y (P (with_step y before t) s')) (sym is)
    (subst (λ (v : Step). UnlessFailed (passed r) (P (with_step (passed r) before v) s')) same after)

pub starts_fold : (s : State) → s ≡ new_state → IsFold [] s
unfolding sat holds
starts_fold s is = subst (λ (x : State). IsFold [] x) (sym is) (λ a. refl)
