use Rattle.std.proofs.Common.{◌≡◌, ℕ, ◌<◌, Bool, true}
use Rattle.sat_rules.specs.Clauses.{all_true}
use Rattle.follows_check.specs.Minimal.{without}
use Rattle.follows_check.proofs.models.check_models.Given as goal

-- each clause so far is needed
abbrev pub invariant-loop-index : goal.invariant-loop-index
invariant-loop-index g l = (i : ℕ) → i < l.index → (a : ℕ → Bool) × (all_true a (without i l.formula) ≡ true)
