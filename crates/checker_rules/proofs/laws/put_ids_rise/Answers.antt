use Rattle.checker_rules.proofs.FormulaHints as here
use Rattle.checker_rules.proofs.laws.put_ids_rise.Goals as goal

pub returns : goal.returns
returns c = here.put_ids_rise
