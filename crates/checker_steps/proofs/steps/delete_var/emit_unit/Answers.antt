use Rattle.checker_steps.proofs.Common.{common_steps, emits_unit, index_of, state_of}
use Rattle.std.proofs.Common.{None, sym, ap, arith}
use Rattle.clause_store.proofs.StoreLemmas.{unit_is}
use Rattle.checker_steps.proofs.DeliveryLemmas.{whole-none}
use Rattle.checker_steps.proofs.DeliveryLemmas.{delivered-one}
use Rattle.checker_steps.proofs.steps.delete_var.emit_unit.Goals as goal

pub returns-in_default-clause-delivered : goal.returns-in_default-clause-delivered
returns-in_default-clause-delivered g c st h =
    let s = state_of st h c.args.clauses.now c.args.variables.now in let x = index_of c.args.var in
    whole-none g.P.ProofProcessor g.T.ProofTranscriptProcessor _ _ (sym (ap (emits_unit s x) (unit_is c.args.clauses.now.unit_clauses None c.index.result x c.in_default.ensures c.index.ensures.value)))

pub returns-clause-delivered : goal.returns-clause-delivered
returns-clause-delivered g c st h = grind (arith, common_steps, unit_is, delivered-one)
