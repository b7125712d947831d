use Rattle.sat_hints.proofs.WrittenLines.{written_is_read}
use Rattle.sat_hints.proofs.laws.written_is_read.Goals as goal

pub returns : goal.returns
returns c = written_is_read
