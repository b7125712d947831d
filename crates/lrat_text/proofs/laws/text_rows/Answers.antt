use Rattle.lrat_text.proofs.TextRowsFacts.{text_rows}
use Rattle.lrat_text.proofs.laws.text_rows.Goals as goal

pub returns : goal.returns
returns c = text_rows
