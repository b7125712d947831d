use Rattle.refutation_rules.proofs.Selectors.{follows_is_shown}
use Rattle.refutation_rules.proofs.laws.follows_is_shown.Goals as goal

pub returns : goal.returns
returns c = follows_is_shown
