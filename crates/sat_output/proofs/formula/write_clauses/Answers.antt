use Rattle.std.proofs.lemmas.Result.{err_from_is_err_and}
use Rattle.sat_output.proofs.WrittenClauses.{one_begun, one_written}
use Rattle.sat_output.proofs.formula.write_clauses.Goals as goal

pub loop-clause-preserved : goal.loop-clause-preserved
loop-clause-preserved g c = one_written _ _ _ c.in-Some.clause.now c.next.new.self c.loop-clause.clause-iterator c.args.formula.now c.loop-clause.invariant c.in-Some.ensures.steps c.in_ok-write_clause.ensures.whole

pub returns-in_err-write_clause-clause-beginning : goal.returns-in_err-write_clause-clause-beginning
returns-in_err-write_clause-clause-beginning g c =
    let q = err_from_is_err_and c.from_residual.result c.from_residual.ensures.1 in
    rw q.1 (one_begun _ _ _ c.in-Some.clause.now c.next.new.self c.loop-clause.clause-iterator c.args.formula.now c.loop-clause.invariant c.in-Some.ensures.steps c.in_err-write_clause.ensures.beginning)
