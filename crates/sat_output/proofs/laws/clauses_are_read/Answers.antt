use Rattle.sat_output.proofs.FormulaLines as lines
use Rattle.sat_output.proofs.laws.clauses_are_read.Goals as goal

pub returns : goal.returns
returns c = lines.clauses_are_read
