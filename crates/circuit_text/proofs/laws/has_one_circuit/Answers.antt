use Rattle.circuit_text.proofs.WrittenBoth.{is_one}
use Rattle.circuit_text.proofs.laws.has_one_circuit.Goals as goal

pub returns : goal.returns
returns c = λ text x y h k. is_one text x y h k
