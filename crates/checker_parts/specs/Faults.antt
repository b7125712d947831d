-- What a step answers before its error is made.
--     AnswersOutcome r o s      the answer r and the state s after the step are those of the outcome o; nothing where it gave up
--     UnlessStopped r P      P, unless memory was refused or a processor answered a fault
--     has_stopped r      whether one of the two happened
--     IsFaultOrMemory f P Q      P at a processor's fault, Q at out of memory; a rejection is not answered
--     IsErrorOf n f e      e is the error of the fault f at the step number n, whatever text it shows
--     IsAnswerOf n r a      a is the answer of the call whose step answered r
use Rattle.std.specs.Prelude.{◌≡◌, ℕ, Bool, true, false, Some, None, Result, Ok, Err}
use Rattle.checker_rules.specs.Outcome.{Outcome}
use Rattle.checker_rules.specs.State.{State}
use Rattle.checker_parts.specs.Causes.{cause_of}
use Rattle.checker_parts.specs.declared.error.CheckerError.{CheckerError}
use Rattle.checker_parts.specs.declared.error.CheckerError.TheVariants as errors
use Rattle.checker_parts.specs.declared.error.StepFault.{StepFault}
use Rattle.checker_parts.specs.declared.error.StepFault.TheVariants.{Refused, Processor, OutOfMemory}

-- accepted, or rejected with this cause, and the state after; nothing where memory was refused or a processor answered a fault
abbrev pub AnswersOutcome : {A : Type 0} → Result A StepFault → Outcome → State → Type 0
AnswersOutcome (Ok x) o s = (o.refused ≡ None) × (s ≡ o.after)
AnswersOutcome (Err (Refused cause)) o s = (o.refused ≡ Some (cause_of cause)) × (s ≡ o.after)
AnswersOutcome (Err Processor) o s = Unit {0}
AnswersOutcome (Err OutOfMemory) o s = Unit {0}

-- the fact, unless memory was refused or a processor answered a fault
abbrev pub UnlessStopped : {A : Type 0} → Result A StepFault → Type 0 → Type 0
UnlessStopped (Ok x) P = P
UnlessStopped (Err (Refused cause)) P = P
UnlessStopped (Err Processor) P = Unit {0}
UnlessStopped (Err OutOfMemory) P = Unit {0}

-- whether memory was refused or a processor answered a fault
abbrev pub has_stopped : {A : Type 0} → Result A StepFault → Bool
has_stopped (Ok x) = false
has_stopped (Err (Refused cause)) = false
has_stopped (Err Processor) = true
has_stopped (Err OutOfMemory) = true

-- the first fact at a processor's fault, the second at out of memory; a rejection is not answered
abbrev pub IsFaultOrMemory : StepFault → (fault memory : Type 0) → Type 0
IsFaultOrMemory Processor P Q = P
IsFaultOrMemory OutOfMemory P Q = Q
IsFaultOrMemory (Refused cause) P Q = ⊥

-- a rejection names the step and the cause; of a processor's fault nothing is said
abbrev pub IsErrorOf : ℕ → StepFault → CheckerError → Type 0
IsErrorOf n f (errors.CheckFailed step cause debug_step) = (step ≡ n) × (f ≡ Refused cause)
IsErrorOf n f (errors.ProofProcessorError cause) = f ≡ Processor
IsErrorOf n f errors.OutOfMemory = f ≡ OutOfMemory
IsErrorOf n f (errors.ProofIncomplete step) = ⊥
IsErrorOf n f (errors.IoError step cause) = ⊥
IsErrorOf n f (errors.ParseError step cause) = ⊥
IsErrorOf n f errors.Failed = ⊥

-- accepted as the step is, or the error of its fault
abbrev pub IsAnswerOf : {A : Type 0} → ℕ → Result A StepFault → Result A CheckerError → Type 0
IsAnswerOf n (Ok x) a = a ≡ Ok x
IsAnswerOf n (Err f) (Ok x) = ⊥
IsAnswerOf n (Err f) (Err e) = IsErrorOf n f e
