use Rattle.std.proofs.Common.{[], ap}
use Rattle.checker_steps.proofs.Common.{both_ran_nil, view, context_state}
use Rattle.checker_steps.proofs.EmissionLemmas.{emits-end}
use Rattle.checker_steps.proofs.StepAnswers.{end-answers}
use Rattle.checker_steps.proofs.check.take_step.Goals as goal

pub returns-in-End-clause-step : goal.returns-in-End-clause-step
returns-in-End-clause-step g c = end-answers (context_state c.args.ctx.now) (view c.args.step.now) (ap view c.in-End.is)

pub returns-in-End-clause-delivered : goal.returns-in-End-clause-delivered
returns-in-End-clause-delivered g c =
    let s = context_state c.args.ctx.now in let t = view c.args.step.now in
    ([], emits-end s t (ap view c.in-End.is), both_ran_nil _ _ _ _)
