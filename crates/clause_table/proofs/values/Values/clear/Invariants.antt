use Rattle.std.proofs.Common.{◌≡◌, ℕ, true, length}
use Rattle.sat_rules.specs.Clauses.{has}
use Rattle.clause_table.specs.Values.{true_by}
use Rattle.clause_table.proofs.values.Values.clear.Given as goal

-- what is still true comes before
abbrev pub invariant-loop-lit : goal.invariant-loop-lit
invariant-loop-lit l = (k : ℕ) → true_by l.self-inside.1.0 k ≡ true → has k l.rest ≡ true

abbrev pub decreases-loop-lit : goal.decreases-loop-lit
decreases-loop-lit l = length l.rest
