use Rattle.circuit_text.specs.Circuits.{gate_of}
use Rattle.circuit_clauses.specs.Causes.{gate_fits}
use Rattle.circuit_clauses.proofs.PlaceLemmas.{at_mapped}
use Rattle.circuit_clauses.proofs.shift.Shift.moved_gates.Goals as goal

pub moved_gate-requires : goal.moved_gate-requires
moved_gate-requires c =
    at_mapped (gate_fits c.args.self.distance) gate_of c.args.gates.now c.loop-gate.gate-index c.gate-item.result c.requires c.loop-gate-test.true c.gate-item.is
