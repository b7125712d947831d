use Rattle.std.proofs.Common.{◌≡◌, ◌++◌, map, take}
use Rattle.circuit_rules.specs.Circuits.{circuit_clauses}
use Rattle.circuit_text.specs.Circuits.{gate_of}
use Rattle.circuit_clauses.proofs.gates.add_circuit.Given as goal

abbrev pub invariant-loop-gate : goal.invariant-loop-gate
invariant-loop-gate l = l.formula ≡ l.fn.formula ++ circuit_clauses (map gate_of (take l.gate-index l.gates))
