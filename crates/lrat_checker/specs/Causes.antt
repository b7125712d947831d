-- The causes of refusals as the rules know them.
--     cause_of c      the cause
--     IsCause stop o      the check of a line stops for the cause of the rules, or since memory ran out
--     IsFailedGroup stop o      a group fails, or memory runs out
use Rattle.std.specs.Prelude.{◌≡◌, ℕ, Option, Some, None}
use Rattle.lrat_rules.specs.Causes as rules
use Rattle.lrat_rules.specs.Causes.{Cause}
use Rattle.lrat_checker.specs.declared.fault.LratCause.{LratCause}
use Rattle.lrat_checker.specs.declared.fault.LratCause.TheVariants.{GroupFails, GroupMissing, IdTaken, NoConflict, NotUnit, UnknownId}
use Rattle.lrat_checker.specs.declared.fault.Stop.{Stop}
use Rattle.lrat_checker.specs.declared.fault.Stop.TheVariants.{OutOfMemory, Refused}

-- the cause as the rules know it
abbrev pub cause_of : LratCause → Cause
cause_of IdTaken = rules.id_taken
cause_of UnknownId = rules.unknown_id
cause_of NotUnit = rules.not_unit
cause_of NoConflict = rules.no_conflict
cause_of GroupMissing = rules.group_missing
cause_of GroupFails = rules.group_fails

-- the check of a line stops for the cause of the rules, or since memory ran out
abbrev pub IsCause : Stop → Option Cause → Type 0
IsCause (Refused cause) o = o ≡ Some (cause_of cause)
IsCause OutOfMemory o = Unit {0}

-- a group fails, or memory runs out
abbrev pub IsFailedGroup : Stop → Option ℕ → Type 0
IsFailedGroup (Refused cause) o = (cause_of cause ≡ rules.group_fails) × (o ≡ None)
IsFailedGroup OutOfMemory o = Unit {0}
