use Rattle.definition_rows.proofs.FoldFacts.{fold_rows}
use Rattle.definition_rows.proofs.laws.fold_rows.Goals as goal

pub returns : goal.returns
returns c = fold_rows
