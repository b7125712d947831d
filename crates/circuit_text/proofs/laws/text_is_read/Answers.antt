use Rattle.circuit_text.proofs.WrittenBoth.{is_read}
use Rattle.circuit_text.proofs.WrittenBytes.{binary_text_is}
use Rattle.circuit_text.proofs.laws.text_is_read.Goals as goal
use Rattle.std.specs.Prelude.{◌++◌}
use Rattle.circuit_text.specs.Writing.{binary_text}

pub returns : goal.returns
returns c = λ x rest is after. is_read (binary_text x ++ rest) x (binary_text_is x rest is after)
