use Rattle.sat_output.proofs.BinaryLines as binary
use Rattle.sat_output.proofs.laws.bytes_are_read.Goals as goal

pub returns : goal.returns
returns c = binary.bytes_are_read
