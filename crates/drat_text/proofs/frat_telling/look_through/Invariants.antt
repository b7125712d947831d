use Rattle.std.proofs.Common.{◌-◌}
use Rattle.drat_text.specs.Taking.{unread_bytes}
use Rattle.drat_text.proofs.LookLemmas.{LooksOn}
use Rattle.drat_text.proofs.FratTellLemmas.{Remains}
use Rattle.drat_text.proofs.frat_telling.look_through.Given as goal

abbrev pub invariant-bytes : goal.invariant-bytes
invariant-bytes g l = record {
  looks : LooksOn g.R.Read.remaining l.fn.bytes l.bytes l.place;
  remains : Remains (unread_bytes g.R.Read.remaining l.fn.bytes) l.place l.in_comment;
}

abbrev pub decreases-bytes : goal.decreases-bytes
decreases-bytes g l = 4096 - l.place
