use Rattle.std.proofs.Common.{List, subst, sym}
use Rattle.session_text.specs.NextLine.{content_read}
use Rattle.session_text.specs.Outcomes.{Line}
use Rattle.sat_formula.proofs.Exits.{exits}
use Rattle.session_check.specs.NextLine.{Reads}
use Rattle.session_check.specs.Progress.{progress_of}
use Rattle.session_check.specs.Runs.{IsRun, Leaves}
use Rattle.session_check.proofs.JoinLemmas.{reads_begun}
use Rattle.session_check.proofs.RunLemmas.{cut_first, cut_report, ended_run, faulty_run, line_taken, so_far_on, so_far_start, stopped_run}
use Rattle.session_check.proofs.run.check_lines.Goals as goal

pub returns-in-Err : goal.returns-in-Err
returns-in-Err g c known r =
    cut_first known (λ (ls : List Line). Reads g.P.Read.remaining g.I.Read.remaining known ls c.args.lines) _ (reads_begun g.P.Read.remaining g.I.Read.remaining known c.args.lines) r

pub lines-init : goal.lines-init
lines-init g c known r =
    so_far_start (λ (ls : List Line). Reads g.P.Read.remaining g.I.Read.remaining known ls c.args.lines) _ (progress_of c.in-Ok.session) _ r c.in-Ok.ensures c.new-counts.ensures

pub lines-preserved : goal.lines-preserved
lines-preserved g c known r =
    let s = c.lines.invariant known r in
    let next = rw c.in-Ok-Some.field-0-is at (c.in-Ok-Some.ensures.reads known s.lines s.reads) in
    so_far_on c.in-Ok-take.report
    (line_taken (λ (ls : List Line). Reads g.P.Read.remaining g.I.Read.remaining known ls c.next_line.new.self) c.in-Ok-take.report c.in-Ok-Some.kind
    (content_read c.next_line.new.self.proof) s next (rw c.lists.ensures at c.in-Ok-take.ensures)) c.in_ok-tell-in-Ok-take.ensures.whole

pub returns-in_err-tell-in-Ok-take : goal.returns-in_err-tell-in-Ok-take
returns-in_err-tell-in-Ok-take g c known r =
    let s = c.lines.invariant known r in
    let next = rw c.in-Ok-Some.field-0-is at (c.in-Ok-Some.ensures.reads known s.lines s.reads) in
    exits (IsRun known (g.W.Write.contents c.args.out.now) (g.W.Write.contents c.tell.new.out)) _ _ c.from_residual.ensures.1
    (cut_report known (g.W.Write.contents c.tell.new.out) c.in-Ok-take.report _ (reads_begun g.P.Read.remaining g.I.Read.remaining known c.next_line.new.self)
    (line_taken (λ (ls : List Line). Reads g.P.Read.remaining g.I.Read.remaining known ls c.next_line.new.self) c.in-Ok-take.report c.in-Ok-Some.kind
    (content_read c.next_line.new.self.proof) s next (rw c.lists.ensures at c.in-Ok-take.ensures)) c.in_err-tell-in-Ok-take.ensures.part)

pub returns-in-Err-take : goal.returns-in-Err-take
returns-in-Err-take g c known r =
    subst (Leaves known (g.W.Write.contents c.args.out.now) (g.W.Write.contents c.lines.out)) (sym c.fault_of.ensures)
    (stopped_run known c.in-Err-take.stop _ (reads_begun g.P.Read.remaining g.I.Read.remaining known c.lines.lines) (c.lines.invariant known r))

pub returns-in-Ok-None : goal.returns-in-Ok-None
returns-in-Ok-None g c known r =
    let s = c.lines.invariant known r in
    ended_run known (g.W.Write.contents c.finish.new.out) _ s (rw c.in-Ok-None.field-0-is at (c.in-Ok-None.ensures.reads known s.lines s.reads)) c.finish.ensures

pub returns-in-Err-next_line : goal.returns-in-Err-next_line
returns-in-Err-next_line g c known r =
    let s = c.lines.invariant known r in
    faulty_run known c.in-Err-next_line.fault s (c.in-Err-next_line.ensures.reads known s.lines s.reads)
