-- Steps leave the step counter and whether the checker has failed; a counted one raises the counter by one.
use Rattle.std.proofs.Common.{◌≡◌, ℕ, ◌+◌, Bool, true, false, cond, ltb, List, [], ◌∷◌, Option, None, Some, refl, ap, ◌∙◌, rules, arith}
use Rattle.varisat_checker.proofs.Common.{add_clauses, attempt, count_step, step_limit, Cause, Outcome, and_then_by, State, Justification}
use Rattle.varisat_checker.proofs.Common.{Step, add_clause, at_clause, by_redundant, unit_clauses, user_var_name}
use Rattle.checker_rules.specs.AtClause.{store_derived}
use Rattle.checker_rules.specs.Check.{apply_if_named, ready}
use Rattle.checker_rules.specs.DeleteClause.{justified}
use Rattle.checker_rules.specs.Steps.{step}
use Rattle.checker_rules.specs.Store.{store}
use Rattle.checker_rules.specs.UnitClauses.{step_unit, step_unit_clauses}
use Rattle.checker_rules.proofs.Openings.{attempt-counted}

-- the second state has the counter of the first, and has failed where it has
record Same (s t : State) : Type 0 where
  steps : t.steps ≡ s.steps
  failed : t.failed ≡ s.failed

-- what is the same of both branches of a test, of states and of outcomes
branch-same : (s : State) (b : Bool) (t u : State) → Same s t → Same s u → Same s (cond b t u)
branch-same s true t u h k = h
branch-same s false t u h k = k

outcome-same : (s : State) (b : Bool) (o p : Outcome) → Same s o.after → Same s p.after → Same s (cond b o p).after
outcome-same s true o p h k = h
outcome-same s false o p h k = k

fields-same : (s t : State) → t.steps ≡ s.steps → t.failed ≡ s.failed → Same s t
fields-same s t e f = record { steps = e; failed = f }

store-same : (c : List ℕ) (redundant : Bool) (s r : State) → Same s r → Same s (store c redundant r)
store-same c redundant s r h = grind (arith, fields-same)

derived-same : (c : List ℕ) (redundant : Bool) (s r : State) → Same s r → Same s (store_derived c redundant r)
derived-same c true s r h = store-same c true s r h
derived-same c false s r h = let k = store-same c false s r h in fields-same s _ k.steps k.failed

ready-same : (s : State) (c : List ℕ) → Same s (ready s c)
ready-same s c = let k : Same s (apply_if_named s) = search (rules, fields-same) in fields-same s _ k.steps k.failed

justified-same : (j : Justification) (c : List ℕ) (s : State) → Same s (justified j c s).after
justified-same by_redundant c s = search (rules, fields-same)
justified-same _ c s = search (rules, fields-same)

then-same : (s r : State) (refused : Option Cause) (next : State → Outcome) → Same s r → Same s (next r).after →
    Same s (and_then_by refused r next).after
then-same s r None next h k = k
then-same s r (Some cause) next h k = h

unit_step-same : (s r : State) (p : ℕ × ℕ) → Same s r → Same s (step_unit r p).after
unit_step-same s r p h = grind (arith, fields-same)

units-same : (s r : State) (ps : List (ℕ × ℕ)) → Same s r → Same s (step_unit_clauses r ps).after
units-same s r [] h = h
units-same s r (p ∷ ps) h =
    let k = unit_step-same s r p h in
    then-same s (step_unit r p).after (step_unit r p).refused (λ q. step_unit_clauses q ps) k (units-same s (step_unit r p).after ps k)

-- every step
step-same : (s : State) (t : Step) → Same s (step s t).after
unfolding step
step-same s (unit_clauses units) = units-same s s units (fields-same s s refl refl)
step-same s (user_var_name x None) = search (rules, outcome-same, fields-same)
step-same s (at_clause redundant c hashes) = search (rules, outcome-same, derived-same, ready-same) depth 8
step-same s _ = search (rules, outcome-same, fields-same, branch-same, store-same, ready-same, justified-same, then-same)

-- an input clause leaves whether the checker has failed
pub add-failed : (s : State) (c : List ℕ) → (step s (add_clause c)).after.failed ≡ s.failed
add-failed s c = (step-same s (add_clause c)).failed

-- nor does adding clauses fail it
pub adding-failed : (s : State) (cs : List (List ℕ)) → (add_clauses s cs).after.failed ≡ s.failed
adding-failed s [] = refl
adding-failed s (c ∷ cs) = grind (arith, add-failed s c, adding-failed (step s (add_clause c)).after cs)

-- a counted step raises the counter by one
pub attempt-steps : (s : State) (t : Step) → ltb s.steps step_limit ≡ true → (attempt s t).after.steps ≡ s.steps + 1
attempt-steps s t room = ap (λ (o : Outcome). o.after.steps) (attempt-counted s t room) ∙ (step-same (count_step s) t).steps
