use Rattle.checker_rules.proofs.FurtherRowsFacts as here
use Rattle.checker_rules.proofs.laws.further_rows.Goals as goal

pub returns : goal.returns
returns c = here.further_rows
