use Rattle.sat_formula.proofs.Exits.{exits}
use Rattle.session_check.proofs.RunLemmas.{finish_cut}
use Rattle.session_check.specs.Progress.{progress_of}
use Rattle.session_check.specs.Runs.{Finishes, at_last_line, at_report}
use Rattle.session_check.proofs.run.finish.Goals as goal

pub returns-in_err-tell : goal.returns-in_err-tell
returns-in_err-tell g c =
    exits (Finishes (progress_of c.args.session) c.args.counts (g.W.Write.contents c.args.out.now) (g.W.Write.contents c.tell.new.out)) _ _ c.from_residual.ensures.1
    (finish_cut (progress_of c.args.session) c.args.counts (g.W.Write.contents c.args.out.now) (g.W.Write.contents c.tell.new.out) _ (at_report c.in-Ok.report c.in-Ok.ensures.closes) c.in_err-tell.ensures.part)

pub returns-in_err-write_last : goal.returns-in_err-write_last
returns-in_err-write_last g c =
    exits (Finishes (progress_of c.args.session) c.args.counts (g.W.Write.contents c.args.out.now) (g.W.Write.contents c.write_last.new.out)) _ _
    c.from_residual-in_err-write_last.ensures.1
    (finish_cut (progress_of c.args.session) c.args.counts (g.W.Write.contents c.args.out.now) (g.W.Write.contents c.write_last.new.out) _
    (at_last_line c.in-Ok.report c.tell.new.counts (g.W.Write.contents c.tell.new.out) c.in-Ok.ensures.closes c.in_ok-tell.ensures.whole)
    c.in_err-write_last.ensures.part)
