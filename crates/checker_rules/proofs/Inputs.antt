-- How steps change the number of input clauses.
use Rattle.std.proofs.Common.{◌≡◌, ◌≤◌, ℕ, suc, ◌+◌, Bool, false, List}
use Rattle.std.proofs.Common.{[], ◌∷◌, None, refl, ◌∙◌, arith}
use Rattle.checker_rules.specs.AddClause.{step_add_clause, store_input}
use Rattle.checker_rules.specs.AtClause.{step_at_clause}
use Rattle.checker_rules.specs.Canonical.{canonical}
use Rattle.checker_rules.specs.Check.{apply_if_named, ready}
use Rattle.checker_rules.specs.Outcome.{Outcome}
use Rattle.checker_rules.specs.State.{State}
use Rattle.checker_rules.specs.Step.{Step, add_clause, at_clause}
use Rattle.checker_rules.specs.Step.{unit_clauses}
use Rattle.checker_rules.specs.Steps.{step}
use Rattle.checker_rules.specs.Store.{store}
use Rattle.checker_rules.specs.UnitClauses.{step_unit, step_unit_clauses}
use Rattle.checker_rules.proofs.Checks.{by_derived, by_unit}

-- the number of input clauses and the next id
abbrev pub Takes : ℕ → ℕ → State → Type 0
Takes inputs next r = (r.inputs ≡ inputs) × (r.next ≡ next)

pub takes_input : (c : List ℕ) (s : State) → Takes s.inputs (s.next + 1) (store_input c s)
takes_input c s = grind arith

-- the number of input clauses is that of before
abbrev Same : State → Outcome → Type 0
Same s o = o.after.inputs ≡ s.inputs

same-apply : (s : State) → (apply_if_named s).inputs ≡ s.inputs
same-apply s = grind arith

same-store : (c : List ℕ) (r : Bool) (s : State) → (store c r s).inputs ≡ s.inputs
same-store c r s = grind arith

same-at : (s : State) (r : Bool) (c hs : List ℕ) → Same s (step_at_clause s r c hs)
same-at s r c hs = by_derived (Same s) s r c hs refl (λ cause. same-apply s) (λ e. grind (arith, same-apply s, same-store (canonical c) r (ready s (canonical c))))

same-unit : (s : State) (p : ℕ × ℕ) → Same s (step_unit s p)
same-unit s p = by_unit (Same s) s p (λ cause. same-apply s) (λ e. same-store (p.0 ∷ []) false (ready s (p.0 ∷ [])) ∙ same-apply s)

same-units : (s : State) (us : List (ℕ × ℕ)) → Same s (step_unit_clauses s us)
same-units s [] = refl
same-units s (p ∷ ps) = grind (arith, same-unit, same-units (step_unit s p).after ps)

-- an input clause counts, unless it is rejected or `unsat` is recorded
abbrev pub Counts : State → Outcome → Type 0
Counts s o = (s.inputs ≤ o.after.inputs) × (s.unsat ≡ false → o.refused ≡ None → o.after.inputs ≡ suc s.inputs)

pub counts-add : (s : State) (c : List ℕ) → Counts s (step_add_clause s c)
counts-add s c = grind (arith, takes_input)

pub counted : (s : State) (t : Step) → s.inputs ≤ (step s t).after.inputs
unfolding step
counted s (add_clause c) = (counts-add s c).0
counted s (at_clause r c hs) = grind (arith, same-at)
counted s (unit_clauses us) = grind (arith, same-units)
counted s t = grind arith
