use Rattle.checker_steps.proofs.Common.{common_steps, answers-refuse, context_state}
use Rattle.std.proofs.Common.{refl, arith}
use Rattle.checker_steps.proofs.EmissionLemmas.{quiet-refusal, answers-accept, answers-delivers, unless-stopped}
use Rattle.checker_steps.proofs.DeliveryLemmas.{delivered-one}
use Rattle.checker_steps.proofs.ModelLemmas.{model-accepts, model-refuses, model-unsat}
use Rattle.checker_steps.proofs.steps.model.model.Goals as goal

pub returns-then-ctx : goal.returns-then-ctx
returns-then-ctx g c =
    let s = answers-refuse _ _ _ _ (model-unsat (context_state c.args.ctx.now) c.args.assignment.now c.if-ctx.true) refl in
    record { step = s; kept = c.requires; delivered = quiet-refusal g.P.ProofProcessor g.T.ProofTranscriptProcessor _ _ _ _ s.0 refl }

pub returns-in-Ok-judged : goal.returns-in-Ok-judged
returns-in-Ok-judged g c = grind (arith, common_steps, model-accepts, answers-delivers, answers-accept, unless-stopped, delivered-one)

pub returns-in-Err : goal.returns-in-Err
returns-in-Err g c =
    let s = answers-refuse _ _ _ _ (model-refuses (context_state c.args.ctx.now) c.args.assignment.now _ c.if-ctx.false (c.in-Err.ensures c.args.ctx.now.clause_hasher)) refl in
    record { step = s; kept = c.requires; delivered = quiet-refusal g.P.ProofProcessor g.T.ProofTranscriptProcessor _ _ _ _ s.0 refl }
