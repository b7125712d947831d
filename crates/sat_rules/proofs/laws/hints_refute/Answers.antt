use Rattle.sat_rules.proofs.HintLineFacts as here
use Rattle.sat_rules.proofs.laws.hints_refute.Goals as goal

pub returns : goal.returns
returns c = here.hints_refute
