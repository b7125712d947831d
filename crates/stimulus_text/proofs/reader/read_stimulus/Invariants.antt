use Rattle.std.proofs.Common.{◌≡◌, ℕ, Some}
use Rattle.std.specs.Prelude.{unwrap_or}
use Rattle.sat_formula.specs.Readings.{Leads}
use Rattle.sat_formula.specs.Source.{room_of, unread}
use Rattle.stimulus_text.specs.automaton.Items.{told_by}
use Rattle.stimulus_text.specs.automaton.Texts.{outcome_at, outcome_of}
use Rattle.stimulus_text.proofs.reader.read_stimulus.Given as goal

abbrev pub invariant-bytes : goal.invariant-bytes
invariant-bytes g l = record {
  room : (left : ℕ) × (room_of l.source ≡ Some left);
  read : Leads (g.R.Read.remaining l.fn.text) (unread g.R.Read.remaining l.source) (outcome_of l.fn.shape) (outcome_at (told_by l.told) l.spot);
}

abbrev pub decreases-bytes : goal.decreases-bytes
decreases-bytes g l = unwrap_or (room_of l.source) 0
