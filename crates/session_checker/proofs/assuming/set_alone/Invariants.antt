use Rattle.std.proofs.Common.{◌≡◌, ℕ, ◌||◌, drop}
use Rattle.sat_rules.specs.Clauses.{has}
use Rattle.session_checker.proofs.assuming.set_alone.Given as goal

-- with the literals still to come, all are true
abbrev pub invariant-loop-lit : goal.invariant-loop-lit
invariant-loop-lit l = (k : ℕ) → (has k l.values || has k (drop l.lit-index l.lits)) ≡ has k l.lits
