use Rattle.checker_rules.proofs.AddedClauses as here
use Rattle.checker_rules.proofs.laws.formulas_are_fold.Goals as goal

pub returns : goal.returns
returns c = here.formulas_are_fold
