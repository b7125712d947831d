-- Members of the fold over accepted steps, by DIMACS numbers, and states that satisfy it.
use Rattle.std.specs.Prelude.{◌≡◌, ◌==◌, ℕ, Bool, true, false, [], ◌∷◌, Some}
use Rattle.sat_rules.specs.Clauses.{neg, pos}
use Rattle.checker_rules.specs.Headline.{Extends, accepted, holds, run}
use Rattle.checker_rules.specs.State.{sat}
use Rattle.checker_rules.specs.Step.{Step, add_clause, assumptions, by_simplified, delete_clause}
use Rattle.checker_rules.specs.Step.{delete_var, failed_assumptions, model}
use Rattle.checker_rules.specs.Steps.{new_state}

-- no variable is true;  1 alone is
abbrev pub nothing : ℕ → Bool
nothing x = false

abbrev pub first : ℕ → Bool
first x = x == 0

-- 1 2
abbrev pub either : Step
either = add_clause (pos 1 ∷ pos 2 ∷ [])

-- one fact a row
pub record FoldRows : Type 0 where
  pub all_at_first : holds [] nothing ≡ true
  -- an added clause cuts
  pub cut : (holds (either ∷ []) nothing ≡ false) × (holds (either ∷ []) first ≡ true)
  pub cut_twice : holds (either ∷ add_clause (neg 1 ∷ []) ∷ []) first ≡ false
  -- a deleted variable is freed, of what was cut before
  pub freed : holds (either ∷ delete_var 0 ∷ []) nothing ≡ true
  pub other_freed : holds (either ∷ delete_var 2 ∷ []) nothing ≡ false
  pub freed_before : holds (delete_var 0 ∷ either ∷ []) nothing ≡ false
  -- nothing else changes anything
  pub deleted : holds (either ∷ delete_clause by_simplified (pos 1 ∷ pos 2 ∷ []) ∷ []) nothing ≡ false
  pub shown : holds (either ∷ model (pos 1 ∷ []) ∷ assumptions (neg 1 ∷ [])
      ∷ failed_assumptions [] [] ∷ []) first ≡ true
  -- what is stored after a clause is as the fold is, and `unsat` is recorded where it is empty
  pub stored : (sat (run new_state (either ∷ [])) nothing ≡ false)
      × (sat (run new_state (either ∷ [])) first ≡ true)
  pub recorded : (run new_state (add_clause (pos 1 ∷ []) ∷ add_clause (neg 1 ∷ []) ∷ [])).unsat ≡ true
  pub not_recorded : (run new_state (add_clause (pos 1 ∷ []) ∷ either ∷ [])).unsat ≡ false
  pub recorded_set : sat (run new_state (add_clause [] ∷ [])) first ≡ false
  -- a rejected step is no step of the fold
  pub refused : accepted new_state (delete_clause by_simplified (pos 1 ∷ pos 2 ∷ []) ∷ either ∷ [])
      ≡ either ∷ []
  -- a literal of the model, or a unit, is false
  pub literal_false : Extends nothing (pos 1 ∷ []) [] → ⊥
  pub unit_false : Extends nothing [] (Some (record { value = true; id = 0 }) ∷ []) → ⊥
  pub extends : Extends first (pos 1 ∷ neg 2 ∷ []) (Some (record { value = true; id = 0 }) ∷ [])
