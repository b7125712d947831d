use Rattle.refutation_rules.proofs.NameLemmas.{sessions_fail}
use Rattle.refutation_rules.proofs.laws.sessions_fail.Goals as goal

pub returns : goal.returns
returns c = sessions_fail
