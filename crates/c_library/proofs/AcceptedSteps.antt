-- A status of 0 is that of an accepted call of a checker.
use Rattle.std.proofs.Common.{◌≡◌, IfSome, Option, Some, None, Result, Ok, Err, OnOk, arith, subst, sym}
use Rattle.checker_rules.specs.State.{State}
use Rattle.checker_rules.specs.Steps.{new_state}
use Rattle.handles.specs.CheckerAnswers.{status_of}
use Rattle.handles.specs.CheckerCalls.{IsBegin}
use Rattle.handles.specs.declared.checker_fault.CallFault.{CallFault}
use Rattle.handles.specs.declared.checker_fault.CallFault.TheVariants.{Begun, Failed, GaveUp, NoChecker, NoLit, NoStep, OutOfMemory, Refused}

-- what holds of an accepted call
pub accepted : (r : Result (Unit {0}) CallFault) (X : Type 0) → status_of r ≡ 0 → OnOk r X → X
accepted (Ok u) X is holds = holds
accepted (Err NoChecker) X is holds = absurd (omega arith)
accepted (Err Begun) X is holds = absurd (omega arith)
accepted (Err NoLit) X is holds = absurd (omega arith)
accepted (Err NoStep) X is holds = absurd (omega arith)
accepted (Err (Refused number cause)) X is holds = absurd (omega arith)
accepted (Err OutOfMemory) X is holds = absurd (omega arith)
accepted (Err GaveUp) X is holds = absurd (omega arith)
accepted (Err Failed) X is holds = absurd (omega arith)

-- an accepted beginning
pub begun : (o : Option State) (r : Result (Unit {0}) CallFault) (o' : Option State) → IsBegin o r o' → OnOk r (o' ≡ Some new_state)
begun None (Ok done) o' is = is
begun (Some s) (Ok done) o' is = absurd is
begun o (Err fault) o' is = tt

-- of an option that is this one
pub is_some_of : {K : Type 0} (o : Option K) (k : K) (P : K → Type 0) → o ≡ Some k → P k → IfSome o P
is_some_of {K = K} o k P is h = subst (λ (x : Option K). IfSome x P) (sym is) h
