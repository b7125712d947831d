-- Steps of FRAT.
use Rattle.std.specs.Prelude.{ℕ, List}
use Rattle.drat_text.specs.declared.frat_step.FratAction.{FratAction}
use Rattle.drat_text.specs.declared.frat_step.FratHint.{FratHint}
use Rattle.drat_text.specs.declared.frat_step.Renaming.{Renaming}

-- what is said of a clause of this id, with its literals as codes; the hints of the clause that was added last; other ids for some clauses
pub data Step : Type 0 where
  clause : FratAction → ℕ → List ℕ → Step
  hints : List FratHint → Step
  renames : List Renaming → Step
