use Rattle.std.proofs.lemmas.Result.{err_from_is_err_and, on_err_weaker}
use Rattle.sat_output.proofs.WrittenClauses.{clauses_begun, header_begun}
use Rattle.sat_output.proofs.formula.write_formula.Goals as goal

pub returns-in_err-append_whole-clause-beginning : goal.returns-in_err-append_whole-clause-beginning
returns-in_err-append_whole-clause-beginning g c =
    let q = err_from_is_err_and c.from_residual-in_err-append_whole.result c.from_residual-in_err-append_whole.ensures.1 in
    rw q.1 (header_begun _ _ c.args.formula.now (rw (c.deref.ensures.value, c.in_ok-text.ensures) at c.in_err-append_whole.ensures.beginning))

pub returns-clause-beginning : goal.returns-clause-beginning
returns-clause-beginning g c = on_err_weaker c.write_clauses.result
    (clauses_begun _ _ _ c.args.formula.now (rw (c.deref.ensures.value, c.in_ok-text.ensures) at c.in_ok-append_whole.ensures.whole)) c.write_clauses.ensures.beginning
