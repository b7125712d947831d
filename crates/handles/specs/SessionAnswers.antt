-- The outcome of a call of a session as numbers.
--     status_of r, cause_of r, clause_of r      its status;  the number of its cause, or 0;  the clause that a model misses, or 0
--     number_of cause, missed_by cause      the number of a cause of the checker;  the clause that it names, or 0
use Rattle.std.specs.Prelude.{ℕ, Result, Ok, Err}
use Rattle.session_checker.specs.declared.fault.SessionCause.{SessionCause}
use Rattle.session_checker.specs.declared.fault.SessionCause.TheVariants.{BothSigns, IdTaken, MissesAssumption, MissesClause, NoConflict, NotAssumed, NotUnit, UnknownId}
use Rattle.handles.specs.declared.session_fault.HandleFault.{HandleFault}
use Rattle.handles.specs.declared.session_fault.HandleFault.TheVariants.{Begun, NoLit, NoSession, OutOfMemory, Refused}

-- the number of a cause of the checker
abbrev pub number_of : SessionCause → ℕ
number_of IdTaken = 1
number_of UnknownId = 2
number_of NotUnit = 3
number_of NoConflict = 4
number_of NotAssumed = 5
number_of BothSigns = 6
number_of MissesAssumption = 7
number_of (MissesClause n) = 8

-- the clause that a model misses
abbrev pub missed_by : SessionCause → ℕ
missed_by IdTaken = 0
missed_by UnknownId = 0
missed_by NotUnit = 0
missed_by NoConflict = 0
missed_by NotAssumed = 0
missed_by BothSigns = 0
missed_by MissesAssumption = 0
missed_by (MissesClause n) = n

-- accepted, rejected, not run, or out of memory
abbrev pub status_of : Result (Unit {0}) HandleFault → ℕ
status_of (Ok r) = 0
status_of (Err NoSession) = 2
status_of (Err Begun) = 2
status_of (Err NoLit) = 2
status_of (Err (Refused cause)) = 3
status_of (Err OutOfMemory) = 4

-- the causes of the checker, and then those of the call
abbrev pub cause_of : Result (Unit {0}) HandleFault → ℕ
cause_of (Ok r) = 0
cause_of (Err NoSession) = 9
cause_of (Err Begun) = 10
cause_of (Err NoLit) = 11
cause_of (Err (Refused cause)) = number_of cause
cause_of (Err OutOfMemory) = 0

-- the clause that a model misses
abbrev pub clause_of : Result (Unit {0}) HandleFault → ℕ
clause_of (Ok r) = 0
clause_of (Err NoSession) = 0
clause_of (Err Begun) = 0
clause_of (Err NoLit) = 0
clause_of (Err (Refused cause)) = missed_by cause
clause_of (Err OutOfMemory) = 0
