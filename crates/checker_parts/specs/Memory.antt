-- What takes no memory.
--     NeedsNoMemory r      out of memory is not the answer
--     lists_literals e      whether transcripts get a list of literals of the checked step; it takes memory
use Rattle.std.specs.Prelude.{◌≢◌, Bool, true, false, Result, Err}
use Rattle.checker_rules.specs.CheckedSteps.{CheckedStep, checked_add_clause, checked_assumptions, checked_at_clause, checked_delete_at_clause, checked_delete_clause, checked_delete_rat_clause}
use Rattle.checker_rules.specs.CheckedSteps.{checked_duplicated_clause, checked_failed_assumptions, checked_make_irredundant, checked_model, checked_tautological_clause, checked_user_var}
use Rattle.checker_parts.specs.declared.error.CheckerError.{CheckerError}
use Rattle.checker_parts.specs.declared.error.CheckerError.TheVariants.{OutOfMemory}

-- any answer except out of memory
abbrev pub NeedsNoMemory : {A : Type 0} → Result A CheckerError → Type 0
NeedsNoMemory r = r ≢ Err OutOfMemory

-- whether the image of the step lists literals
abbrev pub lists_literals : CheckedStep → Bool
lists_literals (checked_user_var x u) = false
lists_literals (checked_add_clause id c) = true
lists_literals (checked_duplicated_clause id same c) = true
lists_literals (checked_tautological_clause id c) = true
lists_literals (checked_at_clause id r c ids) = false
lists_literals (checked_delete_clause id c) = false
lists_literals (checked_delete_at_clause id keep c ids) = false
lists_literals (checked_delete_rat_clause id keep c pivot) = false
lists_literals (checked_make_irredundant id c) = false
lists_literals (checked_model m) = true
lists_literals (checked_assumptions c) = true
lists_literals (checked_failed_assumptions c ids) = true
