use Rattle.std.proofs.Common.{◌≡◌, map, take}
use Rattle.sat_rules.specs.Clauses.{lit_true}
use Rattle.circuit_answers.specs.Simulations.{values_of}
use Rattle.circuit_answers.proofs.simulation.Simulation.values.Given as goal

abbrev pub invariant-loop-lit : goal.invariant-loop-lit
invariant-loop-lit l = l.values.items ≡ map (lit_true (values_of l.self)) (take l.lit-index l.lits)
