use Rattle.drat_text.proofs.FratRowsFacts.{frat_rows}
use Rattle.drat_text.proofs.laws.frat_rows.Goals as goal

pub returns : goal.returns
returns c = frat_rows
