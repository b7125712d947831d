use Rattle.std.proofs.Common.{◌-◌, length}
use Rattle.std.specs.Io.KnownBytes.{Keeps, prepend_known}
use Rattle.lrat_binary.proofs.seeing.see.Given as goal

abbrev pub invariant-reads : goal.invariant-reads
invariant-reads g l = Keeps (prepend_known l.fn.seen.items (g.R.Read.remaining l.fn.input)) (prepend_known l.seen.items (g.R.Read.remaining l.input))

abbrev pub decreases-reads : goal.decreases-reads
decreases-reads g l = l.wanted - length l.seen.items
