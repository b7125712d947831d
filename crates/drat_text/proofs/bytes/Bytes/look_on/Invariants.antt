use Rattle.std.proofs.Common.{◌-◌}
use Rattle.drat_text.specs.Bytes.{is_text_byte}
use Rattle.drat_text.specs.Taking.{unread_bytes}
use Rattle.drat_text.proofs.FrontLemmas.{Passes}
use Rattle.drat_text.proofs.LookLemmas.{LooksOn}
use Rattle.drat_text.proofs.bytes.Bytes.look_on.Given as goal

abbrev pub invariant-bytes : goal.invariant-bytes
invariant-bytes g l = record {
  looks : LooksOn g.R.Read.remaining l.fn.self l.self l.place;
  passes : Passes is_text_byte (unread_bytes g.R.Read.remaining l.fn.self) l.place;
}

abbrev pub decreases-bytes : goal.decreases-bytes
decreases-bytes g l = 4096 - l.place
