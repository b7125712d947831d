use Rattle.std.proofs.Common.{◌≡◌, map, drop}
use Rattle.circuit_text.specs.Circuits.{gate_of}
use Rattle.circuit_clauses.specs.Causes.{gates_fit}
use Rattle.circuit_clauses.proofs.fits.gates_fit.Given as goal

abbrev pub invariant-loop-gate : goal.invariant-loop-gate
invariant-loop-gate l = gates_fit l.distance (map gate_of l.gates) ≡ gates_fit l.distance (map gate_of (drop l.gate-index l.gates))
