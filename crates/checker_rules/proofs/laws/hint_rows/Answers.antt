use Rattle.checker_rules.proofs.HintRowsFacts as here
use Rattle.checker_rules.proofs.laws.hint_rows.Goals as goal

pub returns : goal.returns
returns c = here.hint_rows
