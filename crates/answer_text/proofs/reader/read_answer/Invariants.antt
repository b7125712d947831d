use Rattle.std.proofs.Common.{◌≡◌, ℕ, Some}
use Rattle.std.specs.Prelude.{unwrap_or}
use Rattle.sat_formula.specs.Source.{room_of, unread}
use Rattle.answer_text.specs.automaton.Taking.{HasRead}
use Rattle.answer_text.proofs.reader.read_answer.Given as goal

abbrev pub invariant-bytes : goal.invariant-bytes
invariant-bytes g l = record {
  room : (left : ℕ) × (room_of l.source ≡ Some left);
  read : HasRead (g.R.Read.remaining l.fn.answer) (unread g.R.Read.remaining l.source) l.literals l.spot;
}

abbrev pub decreases-bytes : goal.decreases-bytes
decreases-bytes g l = unwrap_or (room_of l.source) 0
