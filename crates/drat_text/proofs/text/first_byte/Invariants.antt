use Rattle.std.proofs.Common.{◌≤◌}
use Rattle.drat_text.specs.declared.bytes.Format.TheVariants.{Text}
use Rattle.drat_text.specs.Places.{Outside}
use Rattle.drat_text.specs.Proofs.{outcome_at}
use Rattle.drat_text.specs.Taking.{Leads, room_in, unread_bytes}
use Rattle.drat_text.proofs.text.first_byte.Given as goal

abbrev pub invariant-bytes : goal.invariant-bytes
invariant-bytes g l = record {
  room : room_in l.bytes ≤ room_in l.fn.bytes;
  read : Leads (unread_bytes g.R.Read.remaining l.fn.bytes) (unread_bytes g.R.Read.remaining l.bytes)
      (outcome_at g.G.Grammar.rules Text Outside) (outcome_at g.G.Grammar.rules Text Outside);
}

abbrev pub decreases-bytes : goal.decreases-bytes
decreases-bytes g l = room_in l.bytes
