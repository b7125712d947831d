use Rattle.std.proofs.Common.{ℕ, ap, ◌∙◌}
use Rattle.std.specs.Prelude.{◌==◌}
use Rattle.sat_formula.proofs.Formulas.{cut-empty}
use Rattle.sat_formula.proofs.cnf.CnfFormula.is_empty.Goals as goal

pub returns : goal.returns
returns c = rw (← c.self.view_is) (cut-empty c.self.inside.lengths.items c.self.inside.lits.items _ (c.is_empty.ensures ∙ ap (λ (n : ℕ). n == 0) c.self.inside.lengths.ok.0))
