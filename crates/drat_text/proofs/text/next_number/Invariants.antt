use Rattle.std.proofs.Common.{◌≤◌}
use Rattle.drat_text.specs.Taking.{room_in, unread_bytes}
use Rattle.drat_text.specs.declared.bytes.Format.TheVariants.{Text}
use Rattle.drat_text.specs.Places.{Within}
use Rattle.drat_text.specs.Proofs.{outcome_at}
use Rattle.drat_text.specs.Taking.{Leads}
use Rattle.drat_text.proofs.text.next_number.Given as goal

abbrev pub invariant-blanks : goal.invariant-blanks
invariant-blanks g l = record {
  room : room_in l.bytes ≤ room_in l.fn.bytes;
  read : (slot : g.G.Grammar.Slot) → Leads (unread_bytes g.R.Read.remaining l.fn.bytes) (unread_bytes g.R.Read.remaining l.bytes)
      (outcome_at g.G.Grammar.rules Text (Within slot)) (outcome_at g.G.Grammar.rules Text (Within slot));
}

abbrev pub decreases-blanks : goal.decreases-blanks
decreases-blanks g l = room_in l.bytes
