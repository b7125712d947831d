use Rattle.index_text.proofs.RowsFacts.{relation_rows}
use Rattle.index_text.proofs.laws.relation_rows.Goals as goal

pub returns : goal.returns
returns c = relation_rows
