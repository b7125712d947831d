use Rattle.definition_rows.proofs.ModelFacts.{model_rows}
use Rattle.definition_rows.proofs.laws.model_rows.Goals as goal

pub returns : goal.returns
returns c = model_rows
