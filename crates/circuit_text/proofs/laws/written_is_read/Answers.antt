use Rattle.circuit_text.proofs.WrittenBoth.{is_read}
use Rattle.circuit_text.proofs.laws.written_is_read.Goals as goal

pub returns : goal.returns
returns c = λ text x h. is_read text x h
