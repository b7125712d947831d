use Rattle.checker_steps.proofs.Common.{kept-answer}
use Rattle.checker_steps.proofs.steps.user_var_name.user_var_name.Goals as goal

pub returns-in-Some-clause-kept : goal.returns-in-Some-clause-kept
returns-in-Some-clause-kept g c =
    let ctx = c.args.ctx.now in let call = c.add_user_mapping in
    kept-answer call.result _ _ _ _ _ _ _ _ _ c.requires (call.ensures.step ctx.checker_state ctx.clause_hasher) (call.ensures.store _ c.requires.store)

pub returns-in-None-clause-kept : goal.returns-in-None-clause-kept
returns-in-None-clause-kept g c =
    let ctx = c.args.ctx.now in let call = c.remove_user_mapping in
    kept-answer call.result _ _ _ _ _ _ _ _ _ c.requires (call.ensures.step ctx.checker_state ctx.clause_hasher) (call.ensures.store _ c.requires.store)
