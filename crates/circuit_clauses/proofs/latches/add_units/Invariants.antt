use Rattle.std.proofs.Common.{◌≡◌, ◌++◌, take}
use Rattle.refutation_rules.specs.Cubes.{units_of}
use Rattle.circuit_clauses.proofs.latches.add_units.Given as goal

abbrev pub invariant-loop-lit : goal.invariant-loop-lit
invariant-loop-lit l = l.formula ≡ l.initial.formula ++ units_of (take l.lit-index l.lits)
