use Rattle.lrat_rules.proofs.Tabling as here
use Rattle.lrat_rules.proofs.laws.tables_decide.Goals as goal

pub returns : goal.returns
returns c = here.tables_decide
