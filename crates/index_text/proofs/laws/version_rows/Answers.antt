use Rattle.index_text.proofs.RowsFacts.{version_rows}
use Rattle.index_text.proofs.laws.version_rows.Goals as goal

pub returns : goal.returns
returns c = version_rows
