use Rattle.std.proofs.Common.{◌≡◌, drop, length}
use Rattle.std.specs.Prelude.{max}
use Rattle.checker_rules.specs.Canonical.{var_bound}
use Rattle.clause_store.proofs.variables.are_known.Given as goal

abbrev pub invariant-loop-lit : goal.invariant-loop-lit
invariant-loop-lit l = max (length l.units) (var_bound (drop l.lit-index l.lits)) ≡ max (length l.units) (var_bound l.lits)
