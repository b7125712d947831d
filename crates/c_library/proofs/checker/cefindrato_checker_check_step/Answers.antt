use Rattle.std.proofs.Common.{sym, ◌∙◌}
use Rattle.c_library.proofs.AcceptedSteps.{accepted, is_some_of}
use Rattle.c_library.proofs.checker.cefindrato_checker_check_step.Goals as goal

pub returns-in-Some-clause-proves : goal.returns-in-Some-clause-proves
returns-in-Some-clause-proves c = is_some_of _ c.in-Some.kind _ (sym c.of.ensures ∙ c.in-Some.is)
    (λ s before was fold is. accepted c.check_step.result _ (sym c.of-in-Some.ensures.status ∙ is) (c.check_step.ensures.proves s before was fold))

pub returns-in-Some-clause-refutes : goal.returns-in-Some-clause-refutes
returns-in-Some-clause-refutes c = is_some_of _ c.in-Some.kind _ (sym c.of.ensures ∙ c.in-Some.is)
    (λ s before was covered is. accepted c.check_step.result _ (sym c.of-in-Some.ensures.status ∙ is) (c.check_step.ensures.refutes s before was covered))
