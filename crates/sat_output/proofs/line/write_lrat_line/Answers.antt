use Rattle.std.proofs.Common.{◌∷◌, []}
use Rattle.lrat_text.specs.NextLine.{view}
use Rattle.sat_output.specs.LineForms.{lines_in}
use Rattle.sat_output.proofs.Beginnings.{begun_none}
use Rattle.sat_output.proofs.line.write_lrat_line.Goals as goal

pub returns-in_err-line-clause-beginning : goal.returns-in_err-line-clause-beginning
returns-in_err-line-clause-beginning g c =
    begun_none c.from_residual.result (g.W.Write.contents c.args.out.now) (lines_in c.args.form c.args.last (view c.args.line ∷ []))
