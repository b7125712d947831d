use Rattle.std.proofs.Common.{ℕ, ◌≤◌}
use Rattle.sat_formula.specs.Readings.{Leads}
use Rattle.lrat_binary.specs.Drafts.{slot_of}
use Rattle.lrat_binary.specs.Lines.{outcome_at}
use Rattle.lrat_binary.specs.Places.{Within}
use Rattle.drat_text.specs.Taking.{room_in, unread_bytes}
use Rattle.lrat_binary.proofs.binary.read_numbers.Given as goal

abbrev pub invariant-numbers : goal.invariant-numbers
invariant-numbers g l = record {
  room : room_in l.bytes ≤ room_in l.fn.bytes;
  read : (before : ℕ) →
      Leads (unread_bytes g.R.Read.remaining l.fn.bytes) (unread_bytes g.R.Read.remaining l.bytes)
      (outcome_at l.fn.ids before (Within (slot_of l.fn.draft))) (outcome_at l.fn.ids before (Within (slot_of l.draft)));
}

abbrev pub decreases-numbers : goal.decreases-numbers
decreases-numbers g l = room_in l.bytes
