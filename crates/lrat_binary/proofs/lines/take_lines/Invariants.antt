use Rattle.std.proofs.Common.{ℕ, List, Option}
use Rattle.lrat_rules.specs.Lines.{Line}
use Rattle.lrat_binary.specs.Proofs.{IsFresh, form_now, work_left}
use Rattle.lrat_binary.specs.TakenLines.{said}
use Rattle.lrat_binary.proofs.GivenLines.{HasGiven}
use Rattle.lrat_binary.proofs.lines.take_lines.Given as goal

-- the lines that the reader gave were taken
abbrev pub invariant-lines : goal.invariant-lines
invariant-lines g l = (known : Option (List ℕ)) → IsFresh g.R.Read.remaining known (form_now l.fn.reader) l.fn.reader →
    (lines : List (ℕ × Line)) × HasGiven g.R.Read.remaining known (form_now l.fn.reader) l.reader lines × g.S.LineSink.has_taken l.fn.sink (said lines) l.sink

abbrev pub decreases-lines : goal.decreases-lines
decreases-lines g l = work_left l.reader
