use Rattle.checker_rules.proofs.Openings.{attempt-counted}
use Rattle.checker_steps.proofs.Common.{common_steps, both_ran_nil, view, context_state}
use Rattle.std.proofs.Common.{[], arith}
use Rattle.checker_steps.proofs.EmissionLemmas.{emits-exhausted}
use Rattle.checker_steps.proofs.DeliveryLemmas.{delivered-weaker}
use Rattle.checker_steps.proofs.StepAnswers.{attempt-refused, no-number, not-exhausted, some-number}
use Rattle.checker_steps.proofs.check.take_counted.Goals as goal

pub returns-then-ctx-clause-step : goal.returns-then-ctx-clause-step
returns-then-ctx-clause-step g c =
    attempt-refused (context_state c.args.ctx.now) (view c.args.step.now) (no-number c.args.ctx.now.checker_state.step c.if-ctx.true)

pub returns-then-ctx-clause-delivered : goal.returns-then-ctx-clause-delivered
returns-then-ctx-clause-delivered g c =
    let ctx = c.args.ctx.now in let t = view c.args.step.now in let s = context_state ctx in
    ([], emits-exhausted s t (no-number ctx.checker_state.step c.if-ctx.true), both_ran_nil _ _ _ _)

pub returns-clause-step : goal.returns-clause-step
returns-clause-step g c = grind (arith, common_steps, attempt-counted, some-number)

pub returns-clause-delivered : goal.returns-clause-delivered
returns-clause-delivered g c = grind (arith, common_steps, delivered-weaker, some-number)

pub returns-clause-exhausted : goal.returns-clause-exhausted
returns-clause-exhausted g c = λ none. absurd (not-exhausted c.args.ctx.now.checker_state.step (omega arith) c.if-ctx.false none)
