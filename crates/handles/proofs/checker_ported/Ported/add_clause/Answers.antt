use Rattle.std.proofs.Common.{refl}
use Rattle.checker_parts.specs.Answers.{IsCovered, IsFold}
use Rattle.varisat_checker.specs.Shown.{state}
use Rattle.handles.proofs.CheckerCallLemmas.{keeps}
use Rattle.handles.proofs.checker_ported.Ported.add_clause.Goals as goal

pub returns-clause-sets : goal.returns-clause-sets
returns-clause-sets c = λ before fold. keeps (λ ts s. IsFold ts s) _ (state c.add_clause.new.self) _ _ before c.add_clause.result _ refl c.told.ensures
    (λ e. (c.add_clause.ensures.failed e).0) (λ e. c.add_clause.ensures.headline e before fold)

pub returns-clause-covers : goal.returns-clause-covers
returns-clause-covers c = λ before covered. keeps (λ ts s. IsCovered ts s) _ (state c.add_clause.new.self) _ _ before c.add_clause.result _ refl c.told.ensures
    (λ e. (c.add_clause.ensures.failed e).0) (λ e. c.add_clause.ensures.covers e before covered)
