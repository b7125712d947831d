use Rattle.session_text.specs.Binary.{binary_from}
use Rattle.session_text.specs.Texts.{lines_from, numbers_from}
use Rattle.session_text.proofs.laws.text_rows.Goals as goal

pub returns : goal.returns
unfolding binary_from lines_from numbers_from
returns c = assumption
