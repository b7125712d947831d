use Rattle.std.proofs.Common.{sym, ◌∙◌}
use Rattle.c_library.proofs.AcceptedSteps.{accepted, begun}
use Rattle.c_library.proofs.checker.cefindrato_checker_begin.Goals as goal

pub returns-clause-new : goal.returns-clause-new
returns-clause-new c = λ is. accepted c.begin.result _ (sym c.of.ensures.status ∙ is) (begun _ c.begin.result _ c.begin.ensures.begin)

pub returns-clause-run : goal.returns-clause-run
returns-clause-run c = (c.begin.result, (c.of.ensures.status, c.of.ensures.cause, c.of.ensures.step), (c.begin.ensures.begin, c.begin.ensures.folds, c.begin.ensures.covers))
