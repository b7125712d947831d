use Rattle.refutation_rules.proofs.RoundLemmas.{rounds_fail}
use Rattle.refutation_rules.proofs.laws.rounds_fail.Goals as goal

pub returns : goal.returns
returns c = rounds_fail
