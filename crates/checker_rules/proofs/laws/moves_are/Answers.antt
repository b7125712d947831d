use Rattle.checker_rules.proofs.RunJoins as here
use Rattle.checker_rules.proofs.laws.moves_are.Goals as goal

pub returns : goal.returns
returns c start = here.moves_are _ _
