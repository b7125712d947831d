use Rattle.checker_rules.proofs.RunJoins as here
use Rattle.checker_rules.proofs.laws.emissions_join.Goals as goal

pub returns : goal.returns
returns c start = here.emissions_join _ _
