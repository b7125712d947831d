-- Calls that fail the checker.
--     is_failure end, has_failed r      whether a call ends so; whether the checker has failed when it answers r
--     IsFailed r      the answer of a checker that had failed before the call
--     RecordsFailure r s      where the call gave up the state says so
use Rattle.std.specs.Prelude.{◌≡◌, Bool, true, false, Result, Err}
use Rattle.checker_rules.specs.State.{State}
use Rattle.checker_parts.specs.Endings.{Ending, given_up, had_failed, ending}
use Rattle.checker_parts.specs.declared.error.CheckerError.{CheckerError}
use Rattle.checker_parts.specs.declared.error.CheckerError.TheVariants.{Failed}
use Rattle.checker_parts.specs.declared.error.DimacsError.{DimacsError}
use Rattle.checker_parts.specs.declared.error.DimacsError.TheVariants.{Checker}

-- the call gave up, or the checker had failed before
abbrev pub is_failure : Ending → Bool
is_failure (given_up loss) = true
is_failure had_failed = true
is_failure _ = false

-- memory was refused, a processor answered a fault, or the checker had failed before
abbrev pub has_failed : {A : Type 0} → Result A CheckerError → Bool
has_failed r = is_failure (ending r)

-- a checker that has failed answers so
abbrev pub IsFailed : {A : Type 0} → Result A CheckerError → Type 0
IsFailed r = r ≡ Err Failed

-- a checker that has failed answers so to a text of clauses
abbrev pub IsTextFailed : {A : Type 0} → Result A DimacsError → Type 0
IsTextFailed r = r ≡ Err (Checker Failed)

-- a checker that gave up has failed
abbrev pub RecordsFailure : {A : Type 0} → Result A CheckerError → State → Type 0
RecordsFailure r s = has_failed r ≡ true → s.failed ≡ true
