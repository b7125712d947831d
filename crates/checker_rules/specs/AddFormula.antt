-- Clauses added one after the other, as the calls `add_formula` and `add_dimacs_cnf` do.
--     add_clauses s cs      the outcome: the steps `AddClause` up to the first that is rejected
--     added s cs      the clauses before the first rejection
--     FormulasAreFold, FormulasCover      what that changes: the accepted clauses count as steps
--     FormulasJoin      a list of clauses added in two parts, as a loop does
use Rattle.std.specs.Prelude.{◌≡◌, ℕ, Bool, List, [], ◌∷◌, ◌++◌, map, Option, Some, None}
use Rattle.sat_rules.specs.Clauses.{all_true}
use Rattle.checker_rules.specs.Calls.{adds, calls_after}
use Rattle.checker_rules.specs.Covers.{Covers}
use Rattle.checker_rules.specs.Headline.{EntailsRedundant, holds}
use Rattle.checker_rules.specs.Outcome.{Cause, Outcome, accept, and_then}
use Rattle.checker_rules.specs.Sound.{Sound}
use Rattle.checker_rules.specs.State.{State, sat}
use Rattle.checker_rules.specs.Step.{Step, add_clause}
use Rattle.checker_rules.specs.Steps.{step}

-- each clause as a step, up to the first that is rejected
abbrev pub add_clauses : State → List (List ℕ) → Outcome
add_clauses s [] = accept s
add_clauses s (c ∷ cs) = and_then (step s (add_clause c)) (λ r. add_clauses r cs)

-- the clause and those accepted after it, unless it is rejected
abbrev pub added_by : Option Cause → List ℕ → List (List ℕ) → List (List ℕ)
added_by None c cs = c ∷ cs
added_by (Some cause) c cs = []

-- the clauses before the first that is rejected
abbrev pub added : State → List (List ℕ) → List (List ℕ)
added s [] = []
added s (c ∷ cs) = added_by (step s (add_clause c)).refused c
    (added (step s (add_clause c)).after cs)

-- the satisfying set is the fold over the steps before and the accepted clauses; the state is the one before the rejected clause
pub record FormulasAreFold : Type 0 where
  pub fold : (s : State) (before : List Step) (cs : List (List ℕ)) → EntailsRedundant s →
      ((a : ℕ → Bool) → sat s a ≡ holds before a) →
      (a : ℕ → Bool) → sat (add_clauses s cs).after a ≡
      holds (before ++ map add_clause (added s cs)) a
  pub covers : (s : State) (before : List Step) (cs : List (List ℕ)) → Covers (holds before) s →
      Covers (holds (before ++ map add_clause (added s cs))) (add_clauses s cs).after
  pub sound : (s : State) (cs : List (List ℕ)) → Sound s → Sound (add_clauses s cs).after
  pub accepted : (s : State) (cs : List (List ℕ)) → (add_clauses s cs).refused ≡ None →
      added s cs ≡ cs
  pub state : (s : State) (cs : List (List ℕ)) →
      (add_clauses s cs).after ≡ calls_after s (map adds (added s cs))
  -- the fold over the clauses alone
  pub members : (cs : List (List ℕ)) (a : ℕ → Bool) → holds (map add_clause cs) a ≡ all_true a cs

-- the first part whole, and then the second
pub record FormulasJoin : Type 0 where
  pub outcome : (s : State) (cs ds : List (List ℕ)) →
      add_clauses s (cs ++ ds) ≡ and_then (add_clauses s cs) (λ r. add_clauses r ds)
  pub clauses : (s : State) (cs ds : List (List ℕ)) → (add_clauses s cs).refused ≡ None →
      added s (cs ++ ds) ≡ cs ++ added (add_clauses s cs).after ds
