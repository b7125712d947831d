use Rattle.checker_rules.proofs.WholeRuns as here
use Rattle.checker_rules.proofs.laws.runs_cover.Goals as goal

pub returns : goal.returns
returns c start = here.runs_cover _ _
