use Rattle.lrat_rules.proofs.Refusing as here
use Rattle.lrat_rules.proofs.laws.causes_are_exact.Goals as goal

pub returns : goal.returns
returns c = here.causes_exact
