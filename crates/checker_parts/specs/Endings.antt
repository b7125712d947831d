-- How a call of the checker ends: its answers in five classes.
--     Ending      accepted, rejected, no step read, given up, or not begun
--     ending r, text_ending r      the end that an answer says, and that of an answer to the text of a formula
--     reading_fault u      what a run over a proof's text meets where no step was read
use Rattle.std.specs.Prelude.{ℕ, Result, Ok, Err}
use Rattle.checker_rules.specs.Outcome.{Cause}
use Rattle.proof_bytes.specs.Reading.{Fault, Short, Wrong}
use Rattle.proof_bytes.specs.declared.fault.MalformedStep.{MalformedStep}
use Rattle.checker_parts.specs.Causes.{cause_of}
use Rattle.checker_parts.specs.declared.error.CheckerError.{CheckerError}
use Rattle.checker_parts.specs.declared.error.CheckerError.TheVariants.{ProofIncomplete, IoError, ParseError, CheckFailed, ProofProcessorError, OutOfMemory, Failed}
use Rattle.checker_parts.specs.declared.error.DimacsError.{DimacsError}
use Rattle.checker_parts.specs.declared.error.DimacsError.TheVariants.{Read, Malformed, Checker}

-- why no step could be read: the text has ended, a field of it is malformed, or a read failed
pub data Unread : Type 0 where
  text_ended : Unread
  text_wrong : MalformedStep → Unread
  read_failed : Unread

-- what a call gave up over: a fault that a processor or a transcript answered, or refused memory
pub data Loss : Type 0 where
  listener_faulted : Loss
  memory_refused : Loss

-- the call was accepted; rejected with this cause, or out of steps to read, at this step number; given up; or not begun, since the checker had failed before
pub data Ending : Type 0 where
  accepted : Ending
  refused : Cause → ℕ → Ending
  unread : Unread → ℕ → Ending
  given_up : Loss → Ending
  had_failed : Ending

-- the end that an answer says
abbrev pub ending : {A : Type 0} → Result A CheckerError → Ending
ending (Ok x) = accepted
ending (Err (CheckFailed number cause debug_step)) = refused (cause_of cause) number
ending (Err (ProofIncomplete number)) = unread text_ended number
ending (Err (ParseError number kind)) = unread (text_wrong kind) number
ending (Err (IoError number cause)) = unread read_failed number
ending (Err (ProofProcessorError cause)) = given_up listener_faulted
ending (Err OutOfMemory) = given_up memory_refused
ending (Err Failed) = had_failed

-- of a call over the text of a formula: where that ends, is malformed or can't be read further, each clause before was accepted
abbrev pub text_ending : {A : Type 0} → Result A DimacsError → Ending
text_ending (Ok x) = accepted
text_ending (Err (Read cause)) = accepted
text_ending (Err (Malformed line kind)) = accepted
text_ending {A = A} (Err (Checker e)) = ending {A = A} (Err e)

-- as the fault of a text's steps: a read that fails is met as the end of what was read
abbrev pub reading_fault : Unread → Fault
reading_fault text_ended = Short
reading_fault (text_wrong kind) = Wrong kind
reading_fault read_failed = Short
