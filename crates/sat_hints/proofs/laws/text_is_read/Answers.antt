use Rattle.sat_hints.proofs.WrittenTexts.{text_is_read}
use Rattle.sat_hints.proofs.laws.text_is_read.Goals as goal

pub returns : goal.returns
returns c = text_is_read
