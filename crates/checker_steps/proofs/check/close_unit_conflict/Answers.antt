use Rattle.checker_steps.proofs.Common.{common_steps, emits_closing, both_ran_nil, form-close}
use Rattle.checker_steps.proofs.Common.{answers-refuse, context_state}
use Rattle.std.proofs.Common.{[], refl, sym, ap, arith, rules}
use Rattle.checker_rules.proofs.Openings.{closing_conflict-exhausted, closing_conflict-none, closing_conflict-taken}
use Rattle.checker_steps.proofs.EmissionLemmas.{answers-delivers, unless-stopped, answers-accept, emits-closed, emits-unclosed}
use Rattle.checker_steps.proofs.DeliveryLemmas.{delivered-one}
use Rattle.checker_steps.proofs.InputLemmas.{is_store-next}
use Rattle.checker_steps.proofs.check.close_unit_conflict.Goals as goal

pub returns-in_default-clause-answer : goal.returns-in_default-clause-answer
returns-in_default-clause-answer g c = answers-accept (closing_conflict-none (context_state c.args.ctx.now) c.in_default.is) refl

pub returns-in_default-clause-delivered : goal.returns-in_default-clause-delivered
returns-in_default-clause-delivered g c = ([], sym (ap (emits_closing (context_state c.args.ctx.now)) c.in_default.is), both_ran_nil _ _ _ _)

pub returns-in-Some-take_id : goal.returns-in-Some-take_id
returns-in-Some-take_id g c =
    grind (arith, common_steps, closing_conflict-taken, answers-accept, form-close, is_store-next, answers-delivers, unless-stopped, delivered-one, emits-closed)

pub returns-in-None-clause-delivered : goal.returns-in-None-clause-delivered
returns-in-None-clause-delivered g c = ([], emits-unclosed (context_state c.args.ctx.now) c.in-None.ensures.id, both_ran_nil _ _ _ _)

pub returns-in-None-clause-answer : goal.returns-in-None-clause-answer
returns-in-None-clause-answer g c = search (rules, answers-refuse, closing_conflict-exhausted)
