use Rattle.sat_hints.proofs.WrittenRuns.{writer_is_accepted}
use Rattle.sat_hints.proofs.laws.writer_is_accepted.Goals as goal

pub returns : goal.returns
returns c = writer_is_accepted
