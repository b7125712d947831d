use Rattle.std.proofs.Common.{refl, subst, sym, ap, ◌∙◌}
use Rattle.std.proofs.Math.Bool.{or-false}
use Rattle.lrat_rules.specs.Lines.{has_empty}
use Rattle.lrat_rules.specs.Stores.{formula_store}
use Rattle.lrat_rules.specs.Tables.{IsTableOf}
use Rattle.lrat_rules.proofs.Tabling.{tables_decide}
use Rattle.lrat_checker.specs.Held.{table_of}
use Rattle.lrat_checker.proofs.formula.LratFormula.checker.Goals as goal

pub returns-clause-ready : goal.returns-clause-ready
returns-clause-ready c formula p = record {
  accepted = record { store = formula_store formula; ran = refl; refuted = c.after.ensures.refuted ∙ p.empty ∙ sym (or-false (has_empty formula)) };
  table = subst (λ t. IsTableOf t (formula_store formula)) (sym (ap table_of c.after.ensures.clauses ∙ p.table)) (tables_decide.formula formula);
  going = c.after.ensures.failed ∙ p.going;
}
