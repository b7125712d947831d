use Rattle.std.proofs.Common.{◌≡◌, ◌++◌, map, take}
use Rattle.circuit_rules.specs.Checks.{moved_gate}
use Rattle.circuit_rules.specs.Circuits.{gates_clauses}
use Rattle.circuit_text.specs.Circuits.{gate_of}
use Rattle.circuit_clauses.proofs.gates.add_moved.Given as goal

abbrev pub invariant-loop-gate : goal.invariant-loop-gate
invariant-loop-gate l =
    l.formula ≡ l.initial.formula ++ gates_clauses (map (moved_gate l.shift.inputs l.shift.distance) (map gate_of (take l.gate-index l.gates)))
