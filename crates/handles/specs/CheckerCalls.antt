-- What a call answers, and what it leaves.
--     fault_of e, unread e, passed r      an error of the checker, of the numbers, and a result of the checker, as those of a call
--     Answers s o r s'      the result r and the state s' after the call are those of the outcome o, from the state s
--     UnlessFailed r P      P, unless the checker has failed
--     with_step r ts t      the steps before, and the step of the call if it was accepted
--     IsBegin o r o'      a beginning
--     IsCall o readable run r o'      a call over these numbers, from the checker o, if there is one, to o'
use Rattle.std.specs.Prelude.{◌≡◌, ℕ, Bool, true, false, List, [], ◌∷◌, ◌++◌, Option, None, Some, Result, Ok, Err}
use Rattle.checker_rules.specs.Outcome.{Outcome}
use Rattle.checker_rules.specs.State.{State}
use Rattle.checker_rules.specs.Step.{Step}
use Rattle.checker_rules.specs.Steps.{new_state}
use Rattle.checker_parts.specs.Answers.{IsRefusal}
use Rattle.checker_parts.specs.Causes.{cause_of}
use Rattle.checker_parts.specs.declared.error.CheckerError.{CheckerError}
use Rattle.checker_parts.specs.declared.error.CheckerError.TheVariants as errors
use Rattle.handles.specs.declared.lits.LitsFault.{LitsFault}
use Rattle.handles.specs.declared.lits.LitsFault.TheVariants as lits
use Rattle.handles.specs.CheckerStates.{HasState}
use Rattle.handles.specs.declared.checker_fault.CallFault.{CallFault}
use Rattle.handles.specs.declared.checker_fault.CallFault.TheVariants.{Begun, Failed, GaveUp, NoChecker, NoLit, NoStep, OutOfMemory, Refused}

-- a rejection keeps its number and its cause; a call of these reads no text, and tells no processor
abbrev pub fault_of : CheckerError → CallFault
fault_of (errors.CheckFailed number cause text) = Refused number cause
fault_of errors.Failed = Failed
fault_of errors.OutOfMemory = GaveUp
fault_of (errors.ProofProcessorError cause) = GaveUp
fault_of (errors.ProofIncomplete number) = GaveUp
fault_of (errors.IoError number cause) = GaveUp
fault_of (errors.ParseError number kind) = GaveUp

-- a fault of the numbers
abbrev pub unread : LitsFault → CallFault
unread lits.NoLit = NoLit
unread lits.OutOfMemory = OutOfMemory

-- the checker's result as that of a call
abbrev pub passed : Result (Unit {0}) CheckerError → Result (Unit {0}) CallFault
passed (Ok done) = Ok done
passed (Err e) = Err (fault_of e)

-- accepted, or rejected with this cause at this step; given up, which fails the checker; or nothing was done, since it had failed or there was no memory
abbrev pub Answers : State → Outcome → Result (Unit {0}) CallFault → State → Type 0
Answers s o (Ok done) s' = (s.failed ≡ false) × (o.refused ≡ None) × (s' ≡ o.after)
Answers s o (Err (Refused number cause)) s' = (s.failed ≡ false) × IsRefusal (cause_of cause) number o s'
Answers s o (Err GaveUp) s' = (s.failed ≡ false) × (s'.failed ≡ true)
Answers s o (Err Failed) s' = (s.failed ≡ true) × (s' ≡ s)
Answers s o (Err OutOfMemory) s' = s' ≡ s
Answers s o (Err NoChecker) s' = ⊥
Answers s o (Err Begun) s' = ⊥
Answers s o (Err NoLit) s' = ⊥
Answers s o (Err NoStep) s' = ⊥

-- the fact, unless the checker has failed
abbrev pub UnlessFailed : Result (Unit {0}) CallFault → Type 0 → Type 0
UnlessFailed (Err GaveUp) P = Unit {0}
UnlessFailed (Err Failed) P = Unit {0}
UnlessFailed _ P = P

-- the steps before, and the step if it was accepted
abbrev pub with_step : Result (Unit {0}) CallFault → List Step → Step → List Step
with_step (Ok done) ts t = ts ++ t ∷ []
with_step (Err fault) ts t = ts

-- there is a new checker; or there was one already, or no memory
abbrev pub IsBegin : Option State → Result (Unit {0}) CallFault → Option State → Type 0
IsBegin None (Ok done) o' = o' ≡ Some new_state
IsBegin None (Err OutOfMemory) o' = o' ≡ None
IsBegin (Some s) (Err Begun) o' = o' ≡ Some s
IsBegin _ _ o' = ⊥

-- a number is that of no literal, or there was no memory
abbrev pub IsUnread : Result (Unit {0}) CallFault → Type 0
IsUnread (Err NoLit) = Unit {0}
IsUnread (Err OutOfMemory) = Unit {0}
IsUnread _ = ⊥

-- first the checker, then the numbers, then the outcome of the call from its state
abbrev pub IsCall : Option State → Bool → (State → Outcome) → Result (Unit {0}) CallFault → Option State → Type 0
IsCall None readable run r o' = (r ≡ Err NoChecker) × (o' ≡ None)
IsCall (Some s) false run r o' = IsUnread r × (o' ≡ Some s)
IsCall (Some s) true run r o' = HasState o' (λ s'. Answers s (run s) r s')
