use Rattle.std.proofs.Common.{append-nil}
use Rattle.sat_output.proofs.line.line_in.Goals as goal

pub returns-in-Binary-clause-whole : goal.returns-in-Binary-clause-whole
returns-in-Binary-clause-whole c = rw (c.in-Binary.is, append-nil) c.bytes_of.ensures.whole
