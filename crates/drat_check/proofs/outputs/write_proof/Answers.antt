use Rattle.std.proofs.Common.{sym, ◌∙◌}
use Rattle.std.proofs.KnownBytes.{Keeps-refl}
use Rattle.std.proofs.lemmas.Bool.{false_from_ne_true}
use Rattle.drat_check.specs.Outputs.{bytes_in}
use Rattle.verdicts.specs.Texts.{IsUnsatisfiable}
use Rattle.drat_check.proofs.WrittenLines.{began_after, on_err, on_ok, wrote}
use Rattle.drat_check.proofs.outputs.write_proof.Goals as goal

pub returns-then-not-refuted-clause-beginning : goal.returns-then-not-refuted-clause-beginning
returns-then-not-refuted-clause-beginning g c =
    began_after c.in-Ok.ensures.whole (Keeps-refl (bytes_in g.L.Write.contents c.write_lines.new.lrat)) (Keeps-refl (bytes_in g.L.Write.contents c.write_lines.new.trim))

pub returns-clause-shown : goal.returns-clause-shown
returns-clause-shown g c =
    let written = c.in-Ok.ensures.whole in
    on_ok (IsUnsatisfiable c.args.formula.now) c.end_lines.result
    (λ a. false_from_ne_true _ (c.refuted.ensures.refutes c.args.formula.now written.lines written.ready.accepted c.if-not-refuted.false a))

pub returns-clause-whole : goal.returns-clause-whole
returns-clause-whole g c =
    on_ok _ c.end_lines.result (wrote c.in-Ok.ensures.whole (sym c.refuted.ensures.value ∙ c.if-not-refuted.false) c.end_lines.ensures.lrat c.end_lines.ensures.trim)

pub returns-clause-beginning : goal.returns-clause-beginning
returns-clause-beginning g c = on_err _ c.end_lines.result (began_after c.in-Ok.ensures.whole c.end_lines.ensures.lrat c.end_lines.ensures.trim)
