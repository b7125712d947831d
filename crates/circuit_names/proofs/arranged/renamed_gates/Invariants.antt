use Rattle.std.proofs.Common.{◌≡◌, map, take}
use Rattle.circuit_names.specs.Pairs.{renamed_gate}
use Rattle.circuit_text.specs.Circuits.{gate_of}
use Rattle.circuit_names.proofs.arranged.renamed_gates.Given as goal

abbrev pub invariant-loop-gate : goal.invariant-loop-gate
invariant-loop-gate l = map gate_of l.made.items ≡ map (renamed_gate l.inputs) (map gate_of (take l.gate-index l.gates))
