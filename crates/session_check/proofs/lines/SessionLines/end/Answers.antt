use Rattle.std.proofs.Common.{None, Some}
use Rattle.session_text.specs.declared.format.Format.TheVariants.{Lidrup}
use Rattle.session_check.specs.Lines.{Make}
use Rattle.session_check.specs.NextLine.{ReadsBy}
use Rattle.session_check.specs.declared.lines.Ahead.TheVariants.{End}
use Rattle.session_check.proofs.JoinLemmas.{alone_ended, both_ended}
use Rattle.session_check.proofs.lines.SessionLines.end.Goals as goal

pub returns-in-None-clause-reads : goal.returns-in-None-clause-reads
returns-in-None-clause-reads g c known lines h =
    let own : ReadsBy g.P.Read.remaining g.I.Read.remaining (Make Lidrup) known lines None c.args.self.now.ahead = rw c.in-None.is at h in
    alone_ended g.P.Read.remaining g.I.Read.remaining known lines c.args.self.now.ahead own

pub returns-in-End-clause-reads : goal.returns-in-End-clause-reads
returns-in-End-clause-reads g c known lines h =
    let both : ReadsBy g.P.Read.remaining g.I.Read.remaining (Make Lidrup) known lines (Some c.in-Some.interaction) End = rw c.in-End.is at (rw c.in-Some.is at h) in
    both_ended g.P.Read.remaining g.I.Read.remaining known lines c.in-Some.interaction both
