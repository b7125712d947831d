use Rattle.std.proofs.Common.{◌+◌, ◌∷◌, [], refl, sym, ap, ◌∙◌, arith, length-append}
use Rattle.std.specs.Prelude.{◌||◌}
use Rattle.lrat_rules.specs.Lines.{has_empty}
use Rattle.lrat_rules.specs.Tables.{formula_table, put}
use Rattle.lrat_checker.proofs.FormulaLemmas.{empty_is, empty_more, formula_more, formula_past}
use Rattle.lrat_checker.proofs.formula.LratFormula.add_clause.Goals as goal

pub returns-clause-given : goal.returns-clause-given
returns-clause-given c = λ formula p.
    let clause = c.args.clause.now in
    record {
      table = c.in_ok-put.ensures.table (ap (λ t. t.named (c.args.self.now.given + 1)) p.table ∙ formula_past formula (c.args.self.now.given + 1) (omega (arith, p.count))) ∙ ap (put (c.args.self.now.given + 1) clause) p.table ∙ ap (λ n. put (n + 1) clause (formula_table formula)) p.count ∙ sym (formula_more formula clause);
      count = omega (arith, p.count, length-append formula (clause ∷ []));
      empty = ap (λ b. b || c.is_empty.result) p.empty ∙ ap (λ b. has_empty formula || b) (c.is_empty.ensures ∙ empty_is clause) ∙ sym (empty_more formula clause);
      tight = c.in_ok-put.ensures.tight p.tight;
      going = refl;
    }
