use Rattle.checker_rules.proofs.FormulaHints as here
use Rattle.checker_rules.proofs.laws.formulas_emit.Goals as goal

pub returns : goal.returns
returns c = here.formulas_emit
