use Rattle.std.proofs.Common.{◌≡◌, map, take}
use Rattle.circuit_text.specs.Circuits.{latch_of}
use Rattle.circuit_answers.specs.Reached.{nexts}
use Rattle.circuit_answers.specs.Simulations.{values_of}
use Rattle.circuit_answers.proofs.simulation.Simulation.nexts.Given as goal

abbrev pub invariant-loop-latch : goal.invariant-loop-latch
invariant-loop-latch l = l.states.items ≡ nexts (values_of l.self) (map latch_of (take l.latch-index l.latches))
