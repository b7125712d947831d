use Rattle.lrat_binary.proofs.RowsFacts.{binary_rows}
use Rattle.lrat_binary.proofs.laws.binary_rows.Goals as goal

pub returns : goal.returns
returns c = binary_rows
