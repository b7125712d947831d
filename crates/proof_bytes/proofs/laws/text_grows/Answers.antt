use Rattle.proof_bytes.proofs.TextLaws.{text_grows}
use Rattle.proof_bytes.proofs.laws.text_grows.Goals as goal

pub returns : goal.returns
returns c = text_grows
