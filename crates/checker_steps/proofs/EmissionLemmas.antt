-- What a step answers, emits and delivers on, where it is accepted, rejected or met by a fault.
--     emits-accepted, emits-refused, answers-accept, answers-found      where it is accepted, and where a cause was found
--     all-one, all-fault, all-second      steps delivered on one after the other
--     delivered-all, answers-delivers, answers-all, unless-stopped      the clauses of a step that ends with them
--     delivered-refused      a part that rejects hands nothing on
--     answers-fault, delivered-fault      a fault where steps are delivered on
--     delivered-unless-memory      where only memory can fail
--     kept-after      what the parts keep, where the step answers an outcome
--     quiet-refusal      a rejection that emits nothing delivers nothing on
--     emits-closed, traced-emits      the closing conflict, and steps with the traces of their checks
use Rattle.std.specs.Result.{OnErr, OnOk}
use Rattle.std.proofs.Common.{◌≡◌, List, Option, None, Some, Result, Err, refl, sym, ap, ◌∙◌, subst, arith, [], ◌∷◌, ◌++◌, ℕ, ◌<◌, false, ltb, lt-ltb}
use Rattle.std.proofs.Common.{le-ltb, Ok}
use Rattle.checker_steps.proofs.Common.{EmitsCall, checks, step_limit, NamedStep, checked_at_clause, named_in, Emits, EmitsAccepted}
use Rattle.checker_steps.proofs.Common.{EmitsBy, EmitsRefused, emits_closing, Cause, Outcome, accept, refuse, State, Known, Step, end_proof, step}
use Rattle.checker_steps.proofs.Common.{id_limit, traced, WellFormed, steps_keep_form, step-end_proof, cause_of, AnswersOutcome, UnlessStopped}
use Rattle.checker_steps.proofs.Common.{StepFault, Refused, OutOfMemory, PartsInvariant, state_of, IsStore, Clauses, ClauseHasher}
use Rattle.checker_steps.proofs.Common.{CheckerState, answers-refuse, Listeners, Listens, ListensImage, DeliveredList, DeliveredStep, DeliveredAll}
use Rattle.checker_steps.proofs.Common.{DeliveredWhole, RanOver, Processor}
use Rattle.checker_parts.specs.declared.error.CheckCause.{CheckCause}
use Rattle.clause_store.specs.Quiet.{NoListenerFault}
use Rattle.checker_rules.proofs.TracedSteps.{traced_is_emitted}
use Rattle.checker_steps.proofs.DeliveryLemmas.{beginning-second, ran-append, ran-none, whole-none, delivered-weaker}

pub emits-accepted : (s : State) (t : Step) (es : List NamedStep) → (step s t).refused ≡ None → EmitsAccepted s t es → Emits s t es
emits-accepted s t es h k = subst (λ (o : Option Cause). EmitsBy o s t es) (sym h) k

pub emits-refused : (s : State) (t : Step) (es : List NamedStep) (cause : Cause) → (step s t).refused ≡ Some cause → EmitsRefused s t es → Emits s t es
emits-refused s t es cause h k = subst (λ (o : Option Cause). EmitsBy o s t es) (sym h) k

-- an outcome that accepts answers the state that it accepts
pub answers-accept : {o : Outcome} {s t : State} → o ≡ accept s → t ≡ s → (o.refused ≡ None) × (t ≡ o.after)
answers-accept is same = (ap (λ (x : Outcome). x.refused) is, same ∙ sym (ap (λ (x : Outcome). x.after) is))

-- a rejection with the cause that was found
pub answers-found : (msg : CheckCause) (found : Option Cause) (o : Outcome) (s : State) → found ≡ Some (cause_of msg) →
    ((cause : Cause) → found ≡ Some cause → o ≡ refuse cause s) → AnswersOutcome {A = Unit {0}} (Err (Refused msg)) o s
answers-found msg found o s named refused = answers-refuse (cause_of msg) o s s (refused (cause_of msg) named) refl

-- where only memory can fail
pub unless-memory : (P : Type 0) (r : Result (Unit {0}) StepFault) → OnOk r P → OnErr r (r ≡ Err OutOfMemory) → UnlessStopped r P
unless-memory P r p e = grind (arith, p, e)

-- ---- what a step delivers on, from what it emits

module _ {P T : Type 0} (listens : Listens P) (listens_image : ListensImage T) where
  -- a fault at the first step
  pub all-fault : (e : NamedStep) (es : List NamedStep) (old new : Listeners P T) (x : StepFault) →
      DeliveredStep {A = Unit {0}} (Err x) e listens listens_image old new →
      DeliveredAll {A = Unit {0}} (Err x) (e ∷ es) listens listens_image old new
  all-fault e es old new x h = grind (arith, h, ran-none listens listens_image old)

  -- one step
  pub all-one : {A : Type 0} (e : NamedStep) (old new : Listeners P T) (r : Result A StepFault) →
      DeliveredStep r e listens listens_image old new →
      DeliveredAll r (e ∷ []) listens listens_image old new
  all-one e old new r h = grind (arith, h, ran-none listens listens_image old)

  -- after some steps, more of them
  pub all-second : {A : Type 0} (first es : List NamedStep) (old mid new : Listeners P T) (r : Result A StepFault) →
      RanOver listens listens_image first old mid → DeliveredAll r es listens listens_image mid new →
      DeliveredAll r (first ++ es) listens listens_image old new
  all-second first es old mid new (Ok done) a h = ran-append listens listens_image first es old mid new a h
  all-second first es old mid new (Err Processor) a h =
      beginning-second listens listens_image (λ xs. xs ≡ es) (λ xs. xs ≡ first ++ es) first old mid new a (λ xs e. ap (λ (ys : List NamedStep). first ++ ys) e) h
  all-second first es old mid new (Err OutOfMemory) a h = tt
  all-second first es old mid new (Err (Refused cause)) a h = h

  -- steps that are the whole list
  pub delivered-all : {A : Type 0} (E : List NamedStep → Type 0) (es : List NamedStep) (old new : Listeners P T)
      (r : Result A StepFault) → E es → DeliveredAll r es listens listens_image old new →
      DeliveredList r E listens listens_image old new
  delivered-all E es old new r h a = grind (arith, h, a)

  -- the answer of a step that is accepted, if its steps are delivered on
  pub answers-all : {A : Type 0} (es : List NamedStep) (old new : Listeners P T) (r : Result A StepFault) (o : Outcome) (s : State) →
      DeliveredAll r es listens listens_image old new → (o.refused ≡ None) × (s ≡ o.after) → AnswersOutcome r o s
  answers-all es old new r o s a h = grind (arith, a, h)

  -- the answer of a step that is accepted, if its one step is delivered on
  pub answers-delivers : {A : Type 0} (e : NamedStep) (old new : Listeners P T) (r : Result A StepFault) (o : Outcome) (s : State) →
      DeliveredStep r e listens listens_image old new → (o.refused ≡ None) × (s ≡ o.after) → AnswersOutcome r o s
  answers-delivers e old new r o s a h = answers-all (e ∷ []) old new r o s (all-one e old new r a) h

-- what holds anyway holds unless the step gave up
pub unless-stopped : {A : Type 0} {P : Type 0} (r : Result A StepFault) → P → UnlessStopped r P
unless-stopped r h = grind (arith, h)

-- ---- faults of a part of a call, and what follows for the whole

module _ {P T : Type 0} (listens : Listens P) (listens_image : ListensImage T) where
  pub answers-fault : (A B : Type 0) (e : StepFault) (es : List NamedStep) (o : Outcome) (s : State) (old new : Listeners P T) →
      DeliveredAll {A = A} (Err e) es listens listens_image old new → AnswersOutcome {A = B} (Err e) o s
  answers-fault A B e es o s old new h = grind (arith, h)

  pub delivered-fault : (A B : Type 0) (e : StepFault) (E : List NamedStep → Type 0) (es : List NamedStep) (old new : Listeners P T) →
      E es → DeliveredAll {A = A} (Err e) es listens listens_image old new →
      DeliveredList {A = B} (Err e) E listens listens_image old new
  delivered-fault A B e E es old new k h = delivered-all listens listens_image {A = A} E es old new (Err e) k h

  -- all is delivered on, or memory was refused
  pub delivered-unless-memory : {A : Type 0} (r : Result A StepFault) (E : List NamedStep → Type 0) (old new : Listeners P T) →
      OnErr r (r ≡ Err OutOfMemory) → DeliveredWhole E listens listens_image old new → DeliveredList r E listens listens_image old new
  delivered-unless-memory r E old new m h = grind (arith, m, h)

-- ---- parts of a call that hand nothing on

module _ {P T : Type 0} (listens : Listens P) (listens_image : ListensImage T) where
  -- a part that rejects
  pub delivered-refused : (A : Type 0) (e : StepFault) (E : List NamedStep → Type 0) (o : Outcome) (s : State) (old : Listeners P T) →
      NoListenerFault {A = Unit {0}} (Err e) → ((cause : Cause) → o.refused ≡ Some cause → E []) → AnswersOutcome {A = Unit {0}} (Err e) o s
      → DeliveredList {A = A} (Err e) E listens listens_image old old
  delivered-refused A e E o s old q f h = grind (arith, whole-none)

-- ---- the clauses of a step, from its outcome

pub kept-after : {st st' : CheckerState} {h h' : ClauseHasher} {cs cs' : Clauses} {known known' : List Known} (t : Step) → PartsInvariant st h cs known →
    state_of st' h' cs' known' ≡ (step (state_of st h cs known) t).after → IsStore h' cs' → PartsInvariant st' h' cs' known'
kept-after t kept after store = record { form = subst WellFormed (sym after) (steps_keep_form _ t kept.form); store = store }

module _ {P T : Type 0} (listens : Listens P) (listens_image : ListensImage T) where
  pub quiet-refusal : (s : State) (t : Step) (cause : Cause) (old : Listeners P T) → (step s t).refused ≡ Some cause → EmitsRefused s t [] →
      DeliveredWhole (Emits s t) listens listens_image old old
  quiet-refusal s t cause old refused quiet = whole-none listens listens_image (Emits s t) old (emits-refused s t [] cause refused quiet)

-- ---- what a step emits that has no number, and what the closing conflict emits

-- `End` emits nothing
pub emits-end : (s : State) (t : Step) → t ≡ end_proof → Emits s t []
emits-end s t e = rw e (emits-accepted s end_proof [] (ap (λ (o : Outcome). o.refused) (step-end_proof s)) refl)

-- nor does a step without a number
pub emits-exhausted : (s : State) (t : Step) → ltb s.steps step_limit ≡ false → EmitsCall s (checks t) []
emits-exhausted s t e = rw e refl

-- the closing conflict
pub emits-closed : (s : State) (id first second : ℕ) → s.conflict ≡ Some (first, second) → s.next < id_limit → id ≡ s.next →
    named_in s (checked_at_clause id false [] (first ∷ second ∷ [])) ∷ [] ≡ emits_closing s s.conflict
emits-closed s id first second e room is = rw (is, e, lt-ltb s.next id_limit room) refl

pub emits-unclosed : (s : State) → (s.next < id_limit → ⊥) → [] ≡ emits_closing s s.conflict
emits-unclosed s none = grind (arith, le-ltb s.next id_limit (omega (arith, none)))

-- the steps with the traces of their checks
pub traced-emits : (s : State) (t : Step) (xs es : List NamedStep) → WellFormed s → xs ≡ traced s t → es ≡ xs → Emits s t es
traced-emits s t xs es w here e = subst (Emits s t) (sym (e ∙ here)) (traced_is_emitted s t w)

module _ {P T : Type 0} (listens : Listens P) (listens_image : ListensImage T) where
  pub delivered-traced : {A : Type 0} (r : Result A StepFault) (s : State) (t : Step) (xs : List NamedStep) (old new : Listeners P T) →
      WellFormed s → xs ≡ traced s t → DeliveredList r (λ es. es ≡ xs) listens listens_image old new
      → DeliveredList r (Emits s t) listens listens_image old new
  delivered-traced r s t xs old new w here h = delivered-weaker listens listens_image (λ es. es ≡ xs) (Emits s t) old new r (λ es e. traced-emits s t xs es w here e) h
