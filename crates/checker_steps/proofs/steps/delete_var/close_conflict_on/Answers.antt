use Rattle.checker_steps.proofs.Common.{common_steps, index_of, state_of}
use Rattle.std.proofs.Common.{sym, arith}
use Rattle.checker_steps.proofs.DeliveryLemmas.{whole-none}
use Rattle.checker_steps.proofs.DeleteVarLemmas.{emits-exhausted, emits-none, emits-taken}
use Rattle.checker_steps.proofs.DeliveryLemmas.{delivered-one}
use Rattle.checker_steps.proofs.steps.delete_var.close_conflict_on.Goals as goal

pub returns-in_default-clause-delivered : goal.returns-in_default-clause-delivered
returns-in_default-clause-delivered g c st h =
    whole-none g.P.ProofProcessor g.T.ProofTranscriptProcessor _ _ (sym (emits-none (index_of c.args.var) (state_of st h c.args.clauses.now c.args.variables.now) c.in_default.ensures))

pub returns-in_default-take_id-clause-delivered : goal.returns-in_default-take_id-clause-delivered
returns-in_default-take_id-clause-delivered g c st h =
    let s = state_of st h c.args.clauses.now c.args.variables.now in
    whole-none g.P.ProofProcessor g.T.ProofTranscriptProcessor _ _ (sym (emits-exhausted (index_of c.args.var) s _ c.in-Some.ensures c.in_default-take_id.ensures.id))

pub returns-clause-delivered : goal.returns-clause-delivered
returns-clause-delivered g c st h = grind (arith, common_steps, delivered-one, emits-taken)
