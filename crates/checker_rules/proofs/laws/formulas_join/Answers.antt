use Rattle.checker_rules.proofs.AddedClauses as here
use Rattle.checker_rules.proofs.laws.formulas_join.Goals as goal

pub returns : goal.returns
returns c = here.formulas_join
