-- Why a list of literals is no model. Its literals are marked.
--     lit_cause s listed l      why a literal can't be listed beside those of a set
--     list_cause s m      why a list is rejected where `unsat` is not recorded
--     IsJudged r cause      the answer of the code names that cause
use Rattle.std.specs.Prelude.{ℕ, ◌≡◌, Bool, if◌then◌else◌, not, List, [], Option, Some, None, Result, Ok, Err}
use Rattle.std.specs.List.{list_all, list_any}
use Rattle.sat_rules.specs.Clauses.{negate, var_of}
use Rattle.checker_rules.specs.Canonical.{is_subset}
use Rattle.checker_rules.specs.KnownVars.{is_known}
use Rattle.checker_rules.specs.Model.{has_some, is_false_by_unit, model_cause}
use Rattle.checker_rules.specs.Outcome.{Cause, model_against_itself, model_against_unit, model_misses_assumption, model_misses_clause, unknown_var}
use Rattle.checker_rules.specs.State.{State, Stored}
use Rattle.checker_parts.specs.Causes.{cause_of}
use Rattle.checker_parts.specs.declared.error.CheckCause.{CheckCause}

-- whether a literal of the clause is in the set
abbrev pub has_marked : (ℕ → Bool) → Stored → Bool
has_marked listed e = list_any listed e.lits

-- the first of two causes that is there
abbrev pub first_cause : Option Cause → Option Cause → Option Cause
first_cause None later = later
first_cause (Some cause) later = Some cause

-- why a literal can't be listed beside those of the set
abbrev pub lit_cause : State → (ℕ → Bool) → ℕ → Option Cause
lit_cause s listed l =
    if not (is_known s (var_of l)) then Some unknown_var
    else if is_false_by_unit s.units l then Some model_against_unit
    else if listed (negate l) then Some model_against_itself
    else None

-- what the list misses
abbrev pub missing_cause : State → List ℕ → Option Cause
missing_cause s m =
    if not (is_subset s.assumed m) then Some model_misses_assumption
    else if not (list_all (λ e. has_some e.lits m) s.clauses) then Some model_misses_clause
    else None

-- why the list is rejected where `unsat` is not recorded
abbrev pub list_cause : State → List ℕ → Option Cause
list_cause s m = first_cause (model_cause s [] m) (missing_cause s m)

-- no cause applies, or the code names the one that does
abbrev pub IsJudged : {A : Type 0} → Result A CheckCause → Option Cause → Type 0
IsJudged (Ok done) cause = cause ≡ None
IsJudged (Err msg) cause = cause ≡ Some (cause_of msg)
