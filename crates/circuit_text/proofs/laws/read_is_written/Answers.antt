use Rattle.circuit_text.proofs.WrittenBoth.{is_written}
use Rattle.circuit_text.proofs.laws.read_is_written.Goals as goal

pub returns : goal.returns
returns c = λ text x h. is_written text x h
