use Rattle.std.proofs.Common.{[]}
use Rattle.session_check.specs.Lines.{Texts}
use Rattle.session_check.specs.NextLine.{Reads, rooms_left}
use Rattle.session_check.specs.Progress.{progress_of}
use Rattle.session_check.proofs.RunLemmas.{SoFar}
use Rattle.session_check.proofs.run.check_lines.Given as goal

abbrev pub invariant-lines : goal.invariant-lines
invariant-lines g l = (known : Texts) → Reads g.P.Read.remaining g.I.Read.remaining known [] l.fn.lines →
    SoFar (λ ls. Reads g.P.Read.remaining g.I.Read.remaining known ls l.lines) (g.W.Write.contents l.fn.out) (g.W.Write.contents l.out) (progress_of l.session) l.counts

abbrev pub decreases-lines : goal.decreases-lines
decreases-lines g l = rooms_left l.lines
