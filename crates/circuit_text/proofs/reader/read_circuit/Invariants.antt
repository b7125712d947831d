use Rattle.std.proofs.Common.{◌≡◌, ℕ, Some}
use Rattle.std.specs.Prelude.{unwrap_or}
use Rattle.sat_formula.specs.Readings.{Leads}
use Rattle.sat_formula.specs.Source.{room_of, unread}
use Rattle.circuit_text.specs.automaton.Aigers.{outcome_at, outcome_of}
use Rattle.circuit_text.specs.Circuits.{circuit_of}
use Rattle.circuit_text.proofs.reader.read_circuit.Given as goal

abbrev pub invariant-bytes : goal.invariant-bytes
invariant-bytes g l = record {
  room : (left : ℕ) × (room_of l.source ≡ Some left);
  read : Leads (g.R.Read.remaining l.fn.text) (unread g.R.Read.remaining l.source) outcome_of (outcome_at (circuit_of l.circuit) l.spot);
}

abbrev pub decreases-bytes : goal.decreases-bytes
decreases-bytes g l = unwrap_or (room_of l.source) 0
