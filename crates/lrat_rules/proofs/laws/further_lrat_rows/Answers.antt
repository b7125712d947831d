use Rattle.lrat_rules.proofs.FurtherLratRowsFacts as here
use Rattle.lrat_rules.proofs.laws.further_lrat_rows.Goals as goal

pub returns : goal.returns
returns c = here.further_lrat_rows
