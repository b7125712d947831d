use Rattle.std.proofs.Common.{arith}
use Rattle.proof_bytes.proofs.LowBytes.{low_of_eight}
use Rattle.proof_bytes.proofs.ahead.eight_ahead.Goals as goal

pub returns-clause-read : goal.returns-clause-read
returns-clause-read c = low_of_eight c.args.bytes.now (λ i. let b = c.type_inv.bytes i in omega arith) c.from_le_bytes.result c.if-bytes-lt8.false c.from_le_bytes.ensures
