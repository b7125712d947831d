use Rattle.std.proofs.Common.{◌≡◌, map, drop}
use Rattle.circuit_rules.specs.Circuits.{are_ordered}
use Rattle.circuit_text.specs.Circuits.{gate_of}
use Rattle.circuit_clauses.proofs.order.are_ordered.Given as goal

abbrev pub invariant-loop-gate : goal.invariant-loop-gate
invariant-loop-gate l = are_ordered l.first (map gate_of l.gates) ≡ are_ordered l.next (map gate_of (drop l.gate-index l.gates))
