use Rattle.index_text.proofs.RowsFacts.{stanza_rows}
use Rattle.index_text.proofs.laws.stanza_rows.Goals as goal

pub returns : goal.returns
returns c = stanza_rows
