use Rattle.std.proofs.Common.{◌≡◌, map, take}
use Rattle.circuit_rules.specs.Checks.{moved_gate}
use Rattle.circuit_text.specs.Circuits.{gate_of}
use Rattle.circuit_clauses.proofs.shift.Shift.moved_gates.Given as goal

abbrev pub invariant-loop-gate : goal.invariant-loop-gate
invariant-loop-gate l = map gate_of l.more.items ≡ map (moved_gate l.self.inputs l.self.distance) (map gate_of (take l.gate-index l.gates))
