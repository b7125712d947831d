use Rattle.drat_text.proofs.RowsFacts.{drat_rows}
use Rattle.drat_text.proofs.laws.drat_rows.Goals as goal

pub returns : goal.returns
returns c = drat_rows
