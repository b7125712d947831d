use Rattle.std.proofs.Common.{[], ◌∷◌, ◌++◌, sym, ◌∙◌}
use Rattle.lrat_text.specs.NextLine.{view}
use Rattle.lrat_binary.specs.Proofs.{form_now, line_number}
use Rattle.lrat_binary.specs.TakenLines.{said}
use Rattle.lrat_binary.proofs.GivenLines.{given_more, given_start, said-more, taken_all, taken_before, taken_but_one, taken_done}
use Rattle.lrat_binary.proofs.lines.take_lines.Goals as goal

pub lines-init : goal.lines-init
lines-init g c = λ known fresh. ([], given_start g.R.Read.remaining known (form_now c.args.reader.now) c.args.reader.now fresh, c.requires.fresh)

pub lines-preserved : goal.lines-preserved
lines-preserved g c = λ known fresh.
    let gave = rw (c.in-Ok-Some.is, c.in-Ok-Some.field-0-is) at c.next_line.follows.holds-at-none in
    let new = c.next_line.follows.lender-at-none in
    let line = c.in-Ok-Some.line in
    let so = c.lines.invariant known fresh in (
      so.0 ++ (line_number new, view line) ∷ [],
      given_more g.R.Read.remaining known (form_now c.args.reader.now) c.lines.reader so.0 so.1 new line gave,
      rw (said-more so.0 (line_number new) (view line)) (c.in_default.ensures c.args.sink.now (said so.0) so.2 (sym c.is_done.ensures ∙ c.lines-test.true)),
    )

pub returns-in-Err-take : goal.returns-in-Err-take
returns-in-Err-take g c = λ known fresh.
    let gave = rw (c.in-Ok-Some.is, c.in-Ok-Some.field-0-is) at c.next_line.follows.holds-at-none in
    let so = c.lines.invariant known fresh in
    rw c.line-line.ensures (taken_but_one g.R.Read.remaining known (form_now c.args.reader.now) g.S.LineSink.is_done (g.S.LineSink.has_taken c.args.sink.now) (g.S.LineSink.has_refused c.args.sink.now)
    c.lines.reader so.0 so.1 c.take.new.self c.next_line.follows.lender-at-none c.in-Ok-Some.line gave c.in-Err-take.fault
    (c.in-Err-take.ensures c.args.sink.now (said so.0) so.2 (sym c.is_done.ensures ∙ c.lines-test.true)))

pub returns-in-Ok-None : goal.returns-in-Ok-None
returns-in-Ok-None g c = λ known fresh.
    let gave = rw (c.in-Ok-None.is, c.in-Ok-None.field-0-is) at c.next_line.follows.holds-at-none in
    let so = c.lines.invariant known fresh in
    taken_all g.R.Read.remaining known (form_now c.args.reader.now) g.S.LineSink.is_done (g.S.LineSink.has_taken c.args.sink.now) (g.S.LineSink.has_refused c.args.sink.now)
    c.lines.reader so.0 so.1 c.lines.sink c.next_line.follows.lender-at-none so.2 (sym c.is_done.ensures ∙ c.lines-test.true) gave

pub returns-in-Err : goal.returns-in-Err
returns-in-Err g c = λ known fresh.
    let gave = rw c.in-Err.is at c.next_line.follows.holds-at-none in
    let so = c.lines.invariant known fresh in
    taken_before g.R.Read.remaining known (form_now c.args.reader.now) g.S.LineSink.is_done (g.S.LineSink.has_taken c.args.sink.now) (g.S.LineSink.has_refused c.args.sink.now)
    c.lines.reader so.0 so.1 c.lines.sink c.next_line.follows.lender-at-none so.2 (sym c.is_done.ensures ∙ c.lines-test.true) c.in-Err.fault gave

pub returns : goal.returns
returns g c = λ known fresh.
    let so = c.lines.invariant known fresh in
    taken_done g.R.Read.remaining known (form_now c.args.reader.now) g.S.LineSink.is_done (g.S.LineSink.has_taken c.args.sink.now) (g.S.LineSink.has_refused c.args.sink.now)
    c.lines.reader so.0 so.1 c.lines.sink so.2 (sym c.is_done.ensures ∙ c.lines-test.false)
