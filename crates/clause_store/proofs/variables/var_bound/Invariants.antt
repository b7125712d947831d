use Rattle.std.proofs.Common.{◌≡◌, drop}
use Rattle.std.specs.Prelude.{max}
use Rattle.checker_rules.specs.Canonical.{var_bound}
use Rattle.clause_store.proofs.variables.var_bound.Given as goal

abbrev pub invariant-loop-lit : goal.invariant-loop-lit
invariant-loop-lit l = max l.bound (var_bound (drop l.lit-index l.lits)) ≡ var_bound l.lits
