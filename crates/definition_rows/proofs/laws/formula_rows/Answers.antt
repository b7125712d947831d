use Rattle.definition_rows.proofs.FormulaFacts.{formula_rows}
use Rattle.definition_rows.proofs.laws.formula_rows.Goals as goal

pub returns : goal.returns
returns c = formula_rows
