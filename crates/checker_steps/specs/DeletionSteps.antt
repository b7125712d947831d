-- What the deletion of a copy delivers on.
use Rattle.std.specs.Prelude.{ℕ, true, false, List, [], ◌∷◌, Option, None, Some}
use Rattle.checker_rules.specs.CheckedSteps.{CheckedStep, NamedStep, checked_delete_at_clause, checked_delete_clause}
use Rattle.checker_rules.specs.State.{Known}
use Rattle.clause_store.specs.declared.clauses.DeleteClauseResult.{DeleteClauseResult}
use Rattle.clause_store.specs.declared.clauses.DeleteClauseResult.TheVariants.{Unchanged, NewlyRedundant, Removed}

-- the step with these names
abbrev pub one_step : List Known → CheckedStep → List NamedStep
one_step names e = record { step = e; names = names } ∷ []

-- by what the deletion did to the clause of the id, and by the id of the clause that implies it: a redundant clause that is removed, an irredundant one that is removed or becomes redundant
abbrev pub deletion_steps : List Known → Option ℕ → DeleteClauseResult → ℕ → List ℕ → List NamedStep
deletion_steps names None Removed id c = one_step names (checked_delete_clause id c)
deletion_steps names None NewlyRedundant id c = []
deletion_steps names None Unchanged id c = []
deletion_steps names (Some implying) Removed id c =
    one_step names (checked_delete_at_clause id false c (implying ∷ []))
deletion_steps names (Some implying) NewlyRedundant id c =
    one_step names (checked_delete_at_clause id true c (implying ∷ []))
deletion_steps names (Some implying) Unchanged id c = []
