-- Worked texts, by computing what their lines say.
use Rattle.lrat_text.specs.Rows.{TextRows}

pub text_rows : TextRows
text_rows = assumption
