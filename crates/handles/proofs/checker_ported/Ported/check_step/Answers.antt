use Rattle.checker_parts.specs.Answers.{IsCovered, IsFold}
use Rattle.varisat_checker.specs.Shown.{state}
use Rattle.handles.proofs.CheckerCallLemmas.{keeps}
use Rattle.handles.proofs.checker_ported.Ported.check_step.Goals as goal

pub returns-clause-sets : goal.returns-clause-sets
returns-clause-sets c = λ before fold. keeps (λ ts s. IsFold ts s) _ (state c.self_check_step.new.self) _ _ before c.self_check_step.result _ c.make_step.ensures c.told.ensures
    (λ e. (c.self_check_step.ensures.failed e).0) (λ e. c.self_check_step.ensures.headline e before fold)

pub returns-clause-covers : goal.returns-clause-covers
returns-clause-covers c = λ before covered. keeps (λ ts s. IsCovered ts s) _ (state c.self_check_step.new.self) _ _ before c.self_check_step.result _ c.make_step.ensures c.told.ensures
    (λ e. (c.self_check_step.ensures.failed e).0) (λ e. c.self_check_step.ensures.covers e before covered)
