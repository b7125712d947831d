use Rattle.sat_output.proofs.FormulaLines as lines
use Rattle.sat_output.proofs.laws.formula_is_read.Goals as goal

pub returns : goal.returns
returns c = lines.formula_is_read
