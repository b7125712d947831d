use Rattle.checker_rules.proofs.RunJoins as here
use Rattle.checker_rules.proofs.laws.runs_join.Goals as goal

pub returns : goal.returns
returns c start = here.runs_join _ _
