use Rattle.checker_rules.proofs.WrittenLineFacts as here
use Rattle.checker_rules.proofs.laws.lines_follow.Goals as goal

pub returns : goal.returns
returns c = here.lines_follow
