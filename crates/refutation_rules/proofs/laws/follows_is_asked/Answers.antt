use Rattle.refutation_rules.proofs.Selectors.{follows_is_asked}
use Rattle.refutation_rules.proofs.laws.follows_is_asked.Goals as goal

pub returns : goal.returns
returns c = follows_is_asked
