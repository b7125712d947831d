-- The answer of a call, from that of its step.
--     error-answers, error-unless, error-delivered      what the error of a fault says
use Rattle.std.proofs.Common.{◌≡◌, ℕ, List, Err, arith}
use Rattle.checker_steps.proofs.Common.{NamedStep, Outcome, State, AnswersOutcome, IsErrorOf, UnlessStopped, StepFault}
use Rattle.checker_steps.proofs.Common.{Delivered, DeliveredList, Listeners, Listens, ListensImage}
use Rattle.checker_parts.specs.Answers.{AnswersParts, UnlessFailed}
use Rattle.checker_parts.specs.declared.error.CheckerError.{CheckerError}

pub error-answers : (n : ℕ) (f : StepFault) (e : CheckerError) (o : Outcome) (s : State) → IsErrorOf n f e → n ≡ s.steps →
    AnswersOutcome {A = Unit {0}} (Err f) o s → AnswersParts {A = Unit {0}} (Err e) o s
error-answers n f e o s is counted h = grind (arith, is, counted, h)

pub error-unless : (P : Type 0) (n : ℕ) (f : StepFault) (e : CheckerError) → IsErrorOf n f e → UnlessStopped {A = Unit {0}} (Err f) P →
    UnlessFailed {A = Unit {0}} (Err e) P
error-unless P n f e is h = grind (arith, is, h)

module _ {P T : Type 0} (listens : Listens P) (listens_image : ListensImage T) where
  pub error-delivered : (E : List NamedStep → Type 0) (n : ℕ) (f : StepFault) (e : CheckerError) (old new : Listeners P T) → IsErrorOf n f e →
      DeliveredList {A = Unit {0}} (Err f) E listens listens_image old new →
      Delivered {A = Unit {0}} (Err e) E listens listens_image old new
  error-delivered E n f e old new is h = grind (arith, is, h)
