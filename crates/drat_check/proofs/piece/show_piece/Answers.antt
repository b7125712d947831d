use Rattle.std.proofs.Common.{sym, ◌∙◌}
use Rattle.std.proofs.KnownBytes.{Keeps-refl}
use Rattle.std.proofs.lemmas.Bool.{false_from_ne_true}
use Rattle.verdicts.specs.declared.piece.PieceVerdict.TheVariants.{Refuted, Carried}
use Rattle.drat_check.specs.Outputs.{bytes_in}
use Rattle.drat_check.proofs.WrittenLines.{began_after, wrote}
use Rattle.drat_check.proofs.WrittenPieces.{began_without_steps, ended, shown_by, without_steps, wrote_piece}
use Rattle.drat_check.proofs.piece.show_piece.Goals as goal

pub returns-in-Err-clause-lines : goal.returns-in-Err-clause-lines
returns-in-Err-clause-lines g c = began_without_steps c.in-Err.ensures.beginning

pub returns-then-refuted-clause-run : goal.returns-then-refuted-clause-run
returns-then-refuted-clause-run g c =
    let written = c.in-Ok.ensures.whole in
    shown_by c.args.formula.now c.args.wanted.now c.end_lines.result Refuted c.end_lines.ensures.verdict c.end_lines.ensures.fault
    (λ a. false_from_ne_true _ (c.refuted.ensures.refutes c.args.formula.now written.lines written.ready.accepted c.if-refuted.true a))

pub returns-then-refuted-clause-lines : goal.returns-then-refuted-clause-lines
returns-then-refuted-clause-lines g c =
    let written = without_steps c.in-Ok.ensures.whole in
    ended c.args.form c.args.formula.now c.args.wanted.now _ _ c.end_lines.result Refuted c.end_lines.ensures.verdict
    (wrote written (sym c.refuted.ensures.value ∙ c.if-refuted.true) c.end_lines.ensures.kept tt) (began_after written c.end_lines.ensures.kept tt)

pub returns-in-Err-stored_ids-clause-lines : goal.returns-in-Err-stored_ids-clause-lines
returns-in-Err-stored_ids-clause-lines g c =
    c.in-Err-stored_ids.ensures.written c.args.formula.now (bytes_in g.L.Write.contents c.args.lrat.now) (without_steps c.in-Ok.ensures.whole)

pub returns-then-not-holds-clause-lines : goal.returns-then-not-holds-clause-lines
returns-then-not-holds-clause-lines g c =
    let written = c.in-Ok-stored_ids.ensures.written c.args.formula.now (bytes_in g.L.Write.contents c.args.lrat.now) (without_steps c.in-Ok.ensures.whole) in
    began_after written (Keeps-refl (bytes_in g.L.Write.contents c.stored_ids.new.lrat)) tt

pub returns-clause-run : goal.returns-clause-run
returns-clause-run g c =
    let written = c.in-Ok-stored_ids.ensures.written c.args.formula.now (bytes_in g.L.Write.contents c.args.lrat.now) (without_steps c.in-Ok.ensures.whole) in
    shown_by c.args.formula.now c.args.wanted.now c.end_lines-2.result Carried c.end_lines-2.ensures.verdict c.end_lines-2.ensures.fault
    (c.holds.ensures.carries c.args.formula.now written.lines written.ready c.if-not-holds.false)

pub returns-clause-lines : goal.returns-clause-lines
returns-clause-lines g c =
    let written = c.in-Ok-stored_ids.ensures.written c.args.formula.now (bytes_in g.L.Write.contents c.args.lrat.now) (without_steps c.in-Ok.ensures.whole) in
    ended c.args.form c.args.formula.now c.args.wanted.now _ _ c.end_lines-2.result Carried c.end_lines-2.ensures.verdict
    (wrote_piece written _ ((c.holds.ensures.stored c.args.formula.now written.lines written.ready).0 c.if-not-holds.false) c.end_lines-2.ensures.kept)
    (began_after written c.end_lines-2.ensures.kept tt)
