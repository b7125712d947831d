-- What is delivered on of an input clause.
use Rattle.std.specs.Prelude.{ℕ, List, [], ◌∷◌, ◌++◌, if◌then◌else◌}
use Rattle.checker_rules.specs.CheckedSteps.{NamedStep, checked_add_clause, checked_duplicated_clause, checked_make_irredundant, checked_tautological_clause}
use Rattle.checker_rules.specs.State.{Known}
use Rattle.checker_steps.specs.declared.steps.add_clause.Added.{Added}
use Rattle.checker_steps.specs.declared.steps.add_clause.Added.TheVariants.{Tautology, New, Duplicate}

-- the steps that show what became of the clause
abbrev pub emitted_of : Added → List ℕ → List Known → List NamedStep
emitted_of (Tautology id) c names =
    record { step = checked_tautological_clause id c; names = names } ∷ []
emitted_of (New id) c names = record { step = checked_add_clause id c; names = names } ∷ []
emitted_of (Duplicate id same_as_id newly_irredundant) c names =
    (if newly_irredundant then record {
      step = checked_make_irredundant same_as_id c;
      names = names;
    } ∷ [] else []) ++ record {
      step = checked_duplicated_clause id same_as_id c;
      names = names;
    } ∷ []
