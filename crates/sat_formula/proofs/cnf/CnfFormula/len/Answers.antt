use Rattle.std.proofs.Common.{◌∙◌}
use Rattle.sat_formula.proofs.Formulas.{length-cut}
use Rattle.sat_formula.proofs.cnf.CnfFormula.len.Goals as goal

pub returns : goal.returns
returns c = rw (← c.self.view_is, length-cut) (c.len.ensures ∙ c.self.inside.lengths.ok.0)
