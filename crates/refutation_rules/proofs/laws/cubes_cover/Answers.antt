use Rattle.refutation_rules.proofs.Covers.{covers}
use Rattle.refutation_rules.proofs.laws.cubes_cover.Goals as goal

pub returns : goal.returns
returns c = covers
