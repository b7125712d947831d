use Rattle.proof_bytes.proofs.TextLaws.{start_is_read}
use Rattle.proof_bytes.proofs.laws.start_is_read.Goals as goal

pub returns : goal.returns
returns c = start_is_read
