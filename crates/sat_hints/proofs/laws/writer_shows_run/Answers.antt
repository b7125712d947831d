use Rattle.sat_hints.proofs.WrittenRuns.{writer_shows_run}
use Rattle.sat_hints.proofs.laws.writer_shows_run.Goals as goal

pub returns : goal.returns
returns c = writer_shows_run
