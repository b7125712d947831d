use Rattle.std.proofs.Common.{◌≤◌}
use Rattle.drat_text.specs.Taking.{Leads, room_in, unread_bytes}
use Rattle.session_text.specs.Content.{content_of, no_content}
use Rattle.session_text.specs.automaton.Texts.{outcome_at}
use Rattle.session_text.proofs.reader.SessionReader.next_line.Given as goal

abbrev pub invariant-bytes : goal.invariant-bytes
invariant-bytes g l = record {
  room : room_in l.self.bytes ≤ room_in l.fn.self.bytes;
  read : Leads (unread_bytes g.R.Read.remaining l.fn.self.bytes) (unread_bytes g.R.Read.remaining l.self.bytes) (outcome_at no_content l.fn.self.spot)
      (outcome_at (content_of l.self.lists) l.self.spot);
}

abbrev pub decreases-bytes : goal.decreases-bytes
decreases-bytes g l = room_in l.self.bytes
