-- The outcome of a call of the ported checker as numbers.
--     status_of r, cause_of r, rejected_step r      its status;  the number of its cause, or 0;  the number of the rejected step, or 0
--     number_of cause      the number of a cause of the checker
use Rattle.std.specs.Prelude.{ℕ, Result, Ok, Err}
use Rattle.checker_parts.specs.declared.error.CheckCause.{CheckCause}
use Rattle.checker_parts.specs.declared.error.CheckCause.TheVariants.{NotSampling, Tautology, NoClauseForHash, AtCheckFailed, DeleteUnitOrEmpty, DeleteUnknown, DeleteRedundantIsIrredundant}
use Rattle.checker_parts.specs.declared.error.CheckCause.TheVariants.{DeleteIrredundantIsRedundant, NotSatisfied, NotSubsumed, DeletedVarNamed, DeletedVarHasClauses, SampleHidden, UserNameTaken}
use Rattle.checker_parts.specs.declared.error.CheckCause.TheVariants.{StillHidden, NameInUse, NoNameToRemove, ModelAgainstUnit, ModelAgainstItself, ModelMissesAssumption, ModelMissesClause}
use Rattle.checker_parts.specs.declared.error.CheckCause.TheVariants.{NotAssumed, UnknownVar, HashBits, CoreVarHidden, ModelAfterUnsat, IdsExhausted, CountExhausted}
use Rattle.checker_parts.specs.declared.error.CheckCause.TheVariants.{StepsExhausted}
use Rattle.handles.specs.declared.checker_fault.CallFault.{CallFault}
use Rattle.handles.specs.declared.checker_fault.CallFault.TheVariants.{Begun, Failed, GaveUp, NoChecker, NoLit, NoStep, OutOfMemory, Refused}

-- the number of a cause of the checker
abbrev pub number_of : CheckCause → ℕ
number_of NotSampling = 1
number_of Tautology = 2
number_of NoClauseForHash = 3
number_of AtCheckFailed = 4
number_of DeleteUnitOrEmpty = 5
number_of DeleteUnknown = 6
number_of DeleteRedundantIsIrredundant = 7
number_of DeleteIrredundantIsRedundant = 8
number_of NotSatisfied = 9
number_of NotSubsumed = 10
number_of DeletedVarNamed = 11
number_of DeletedVarHasClauses = 12
number_of SampleHidden = 13
number_of UserNameTaken = 14
number_of StillHidden = 15
number_of NameInUse = 16
number_of NoNameToRemove = 17
number_of ModelAgainstUnit = 18
number_of ModelAgainstItself = 19
number_of ModelMissesAssumption = 20
number_of ModelMissesClause = 21
number_of NotAssumed = 22
number_of UnknownVar = 23
number_of HashBits = 24
number_of CoreVarHidden = 25
number_of ModelAfterUnsat = 26
number_of IdsExhausted = 27
number_of CountExhausted = 28
number_of StepsExhausted = 29

-- accepted, rejected, not run, or out of memory
abbrev pub status_of : Result (Unit {0}) CallFault → ℕ
status_of (Ok done) = 0
status_of (Err NoChecker) = 2
status_of (Err Begun) = 2
status_of (Err NoLit) = 2
status_of (Err NoStep) = 2
status_of (Err (Refused number cause)) = 3
status_of (Err OutOfMemory) = 4
status_of (Err GaveUp) = 4
status_of (Err Failed) = 2

-- the causes of the checker, and then those of the call; 34 also if the checker fails within the call
abbrev pub cause_of : Result (Unit {0}) CallFault → ℕ
cause_of (Ok done) = 0
cause_of (Err NoChecker) = 30
cause_of (Err Begun) = 31
cause_of (Err NoLit) = 32
cause_of (Err NoStep) = 33
cause_of (Err (Refused number cause)) = number_of cause
cause_of (Err OutOfMemory) = 0
cause_of (Err GaveUp) = 34
cause_of (Err Failed) = 34

-- the number of the rejected step
abbrev pub rejected_step : Result (Unit {0}) CallFault → ℕ
rejected_step (Ok done) = 0
rejected_step (Err NoChecker) = 0
rejected_step (Err Begun) = 0
rejected_step (Err NoLit) = 0
rejected_step (Err NoStep) = 0
rejected_step (Err (Refused number cause)) = number
rejected_step (Err OutOfMemory) = 0
rejected_step (Err GaveUp) = 0
rejected_step (Err Failed) = 0
