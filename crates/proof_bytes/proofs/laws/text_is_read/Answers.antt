use Rattle.proof_bytes.proofs.TextLaws.{text_is_read}
use Rattle.proof_bytes.proofs.laws.text_is_read.Goals as goal

pub returns : goal.returns
returns c = text_is_read
