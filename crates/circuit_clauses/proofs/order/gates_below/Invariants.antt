use Rattle.std.proofs.Common.{◌≡◌, map, drop}
use Rattle.circuit_rules.specs.Checks.{gates_below}
use Rattle.circuit_text.specs.Circuits.{gate_of}
use Rattle.circuit_clauses.proofs.order.gates_below.Given as goal

abbrev pub invariant-loop-gate : goal.invariant-loop-gate
invariant-loop-gate l = gates_below l.shift l.limit (map gate_of l.gates) ≡ gates_below l.shift l.limit (map gate_of (drop l.gate-index l.gates))
