use Rattle.std.proofs.Common.{arith}
use Rattle.command.proofs.Reading.{read_whole}
use Rattle.command.proofs.held.HeldBytes.of_reader.Goals as goal

pub returns-clause-bytes : goal.returns-clause-bytes
returns-clause-bytes g c = read_whole g.R.Read.remaining c.args.from c.take.result c.saturating_add.result c.reserve_exact.new.self.items c.read_to_end.new.buf.items
    c.take.ensures.inner c.take.ensures.limit (grind arith) c.in_ok-read_to_end.ensures.bytes (grind arith)
