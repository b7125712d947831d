-- A status of 0 is that of an accepted call.
use Rattle.std.proofs.Common.{◌≡◌, Result, Ok, Err, OnOk, arith}
use Rattle.handles.specs.SessionAnswers.{status_of}
use Rattle.handles.specs.declared.session_fault.HandleFault.{HandleFault}
use Rattle.handles.specs.declared.session_fault.HandleFault.TheVariants.{Begun, NoLit, NoSession, OutOfMemory, Refused}

-- what holds of an accepted call
pub accepted : (r : Result (Unit {0}) HandleFault) (X : Type 0) → status_of r ≡ 0 → OnOk r X → X
accepted (Ok u) X is holds = holds
accepted (Err NoSession) X is holds = absurd (omega arith)
accepted (Err Begun) X is holds = absurd (omega arith)
accepted (Err NoLit) X is holds = absurd (omega arith)
accepted (Err (Refused cause)) X is holds = absurd (omega arith)
accepted (Err OutOfMemory) X is holds = absurd (omega arith)
