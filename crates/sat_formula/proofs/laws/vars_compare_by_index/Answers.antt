use Rattle.std.proofs.Common.{◌≡◌, ℕ, ◌<◌, ◌^◌, ap, subst}
use Rattle.std.proofs.Math.Bridge.{le_prop}
use Rattle.sat_formula.specs.declared.lit.Var.{Var}
use Rattle.sat_formula.proofs.laws.vars_compare_by_index.Goals as goal

made : (n : ℕ) → n < 2 ^ 28 → Var
made n small = record { index = n; small = small }

made_alike : (m n : ℕ) (p : m < 2 ^ 28) (q : n < 2 ^ 28) → m ≡ n → made m p ≡ made n q
made_alike m n p q e = subst (λ (k : ℕ). (r : k < 2 ^ 28) → made m p ≡ made k r) e (λ r. ap (made m) (le_prop p r)) q

same : (a b : Var) → a.index ≡ b.index → a ≡ b
unfolding made
same a b e = made_alike a.index b.index a.small b.small e

pub returns-clause-same : goal.returns-clause-same
returns-clause-same c = same
