use Rattle.checker_rules.proofs.Refuting as here
use Rattle.checker_rules.proofs.laws.formulas_are_refuted.Goals as goal

pub returns : goal.returns
returns c start = here.formulas_are_refuted _ _
