use Rattle.std.proofs.Common.{sym, ◌∙◌}
use Rattle.lrat_binary.specs.Proofs.{form_now}
use Rattle.lrat_binary.proofs.GivenLines.{none_taken, not_opened}
use Rattle.lrat_binary.proofs.lines.take_proof.Goals as goal

pub returns-then-is_done : goal.returns-then-is_done
returns-then-is_done g c =
    none_taken c.args.ids c.args.clauses (g.R.Read.remaining c.args.proof) g.S.LineSink.is_done (g.S.LineSink.has_taken c.args.sink.now) (g.S.LineSink.has_refused c.args.sink.now)
    c.args.sink.now c.requires.fresh (sym c.is_done.ensures ∙ c.if-is_done.true)

pub returns-in-Ok : goal.returns-in-Ok
returns-in-Ok g c =
    (form_now c.in-Ok.reader, c.in-Ok.ensures.form, c.take_lines.ensures (g.R.Read.remaining c.args.proof) c.in-Ok.ensures.fresh)

pub returns-in-Err : goal.returns-in-Err
returns-in-Err g c =
    not_opened c.args.ids c.args.clauses (g.R.Read.remaining c.args.proof) g.S.LineSink.is_done (g.S.LineSink.has_taken c.args.sink.now) (g.S.LineSink.has_refused c.args.sink.now)
    c.args.sink.now c.requires.fresh (sym c.is_done.ensures ∙ c.if-is_done.false) c.in-Err.fault c.in-Err.ensures.no_line
