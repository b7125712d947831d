use Rattle.checker_rules.proofs.WorkedRowsFacts as here
use Rattle.checker_rules.proofs.laws.worked_rows.Goals as goal

pub returns : goal.returns
returns c = here.worked_rows
