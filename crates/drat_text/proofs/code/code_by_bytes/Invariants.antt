use Rattle.std.proofs.Common.{◌≤◌, ◌<◌}
use Rattle.drat_text.specs.Codes.{code_at}
use Rattle.drat_text.specs.Taking.{Leads, room_in, unread_bytes}
use Rattle.drat_text.proofs.CodeLemmas.{IsWeight}
use Rattle.drat_text.proofs.code.code_by_bytes.Given as goal

abbrev pub invariant-groups : goal.invariant-groups
invariant-groups g l = record {
  room : room_in l.bytes ≤ room_in l.fn.bytes;
  value : l.value < l.weight;
  weight : IsWeight l.last_weight l.weight;
  below : l.weight ≤ l.last_weight;
  read : Leads (unread_bytes g.R.Read.remaining l.fn.bytes) (unread_bytes g.R.Read.remaining l.bytes)
      (code_at l.last_weight 0 1) (code_at l.last_weight l.value l.weight);
}

abbrev pub decreases-groups : goal.decreases-groups
decreases-groups g l = room_in l.bytes
