use Rattle.std.proofs.Common.{◌≤◌}
use Rattle.drat_text.specs.Taking.{room_in, unread_bytes}
use Rattle.drat_text.specs.declared.bytes.Format.TheVariants.{Binary}
use Rattle.drat_text.specs.Places.{Within}
use Rattle.drat_text.specs.Proofs.{outcome_at}
use Rattle.drat_text.specs.Taking.{Leads}
use Rattle.drat_text.proofs.binary.codes.Given as goal

abbrev pub invariant-codes : goal.invariant-codes
invariant-codes g l = record {
  room : room_in l.bytes ≤ room_in l.fn.bytes;
  read : Leads (unread_bytes g.R.Read.remaining l.fn.bytes) (unread_bytes g.R.Read.remaining l.bytes)
      (outcome_at g.G.Grammar.rules Binary (Within (g.G.Grammar.slot_of l.fn.draft))) (outcome_at g.G.Grammar.rules Binary (Within (g.G.Grammar.slot_of l.draft)));
}

abbrev pub decreases-codes : goal.decreases-codes
decreases-codes g l = room_in l.bytes
