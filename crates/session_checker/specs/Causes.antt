-- The causes of rejections as the rules know them.
--     refusal_of c      the cause
--     IsCause fault o      a call is rejected for the cause of the rules, or since memory ran out
use Rattle.std.specs.Prelude.{◌≡◌, Option, Some}
use Rattle.lrat_rules.specs.Causes as rules
use Rattle.session_checker.specs.Refusals.{Refusal, both_signs, by_line, misses_assumption, misses_clause, not_assumed}
use Rattle.session_checker.specs.declared.fault.SessionCause.{SessionCause}
use Rattle.session_checker.specs.declared.fault.SessionCause.TheVariants.{BothSigns, IdTaken, MissesAssumption, MissesClause, NoConflict, NotAssumed, NotUnit, UnknownId}
use Rattle.session_checker.specs.declared.fault.SessionFault.{SessionFault}
use Rattle.session_checker.specs.declared.fault.SessionFault.TheVariants.{OutOfMemory, Refused}

-- the cause as the rules know it
abbrev pub refusal_of : SessionCause → Refusal
refusal_of IdTaken = by_line rules.id_taken
refusal_of UnknownId = by_line rules.unknown_id
refusal_of NotUnit = by_line rules.not_unit
refusal_of NoConflict = by_line rules.no_conflict
refusal_of NotAssumed = not_assumed
refusal_of BothSigns = both_signs
refusal_of MissesAssumption = misses_assumption
refusal_of (MissesClause n) = misses_clause n

-- a call is rejected for the cause of the rules, or since memory ran out
abbrev pub IsCause : SessionFault → Option Refusal → Type 0
IsCause (Refused cause) o = o ≡ Some (refusal_of cause)
IsCause OutOfMemory o = Unit {0}
