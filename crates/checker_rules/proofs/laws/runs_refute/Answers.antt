use Rattle.checker_rules.proofs.Refuting as here
use Rattle.checker_rules.proofs.laws.runs_refute.Goals as goal

pub returns : goal.returns
returns c start = here.runs_refute _ _
