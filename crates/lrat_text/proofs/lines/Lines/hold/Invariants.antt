use Rattle.std.proofs.Common.{◌≡◌, ◌+◌, length}
use Rattle.std.specs.Io.KnownBytes.{Consumes}
use Rattle.lrat_text.specs.Bytes.{IsOpen}
use Rattle.lrat_text.specs.Holding.{room_in, unread_lines}
use Rattle.lrat_text.proofs.lines.Lines.hold.Given as goal

abbrev pub invariant-bytes : goal.invariant-bytes
invariant-bytes g l = record {
  room : room_in l.self + length l.self.held.items ≡ room_in l.fn.self;
  is_open : IsOpen l.self.held.items;
  consumed : Consumes (unread_lines g.R.Read.remaining l.fn.self) (unread_lines g.R.Read.remaining l.self) l.self.held.items;
}

abbrev pub decreases-bytes : goal.decreases-bytes
decreases-bytes g l = room_in l.self
