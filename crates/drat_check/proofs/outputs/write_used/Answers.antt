use Rattle.std.proofs.lemmas.Result.{err_from_is_err_and, on_err_weaker, on_ok_weaker}
use Rattle.drat_check.proofs.WrittenCores.{core_none}
use Rattle.drat_check.proofs.outputs.write_used.Goals as goal

pub returns-in_err-used-clause-beginning : goal.returns-in_err-used-clause-beginning
returns-in_err-used-clause-beginning g c =
    let q = err_from_is_err_and c.from_residual.result c.from_residual.ensures.1 in
    rw q.1 (core_none c.args.formula.now (g.C.Write.contents c.args.out.now))

pub returns-clause-whole : goal.returns-clause-whole
returns-clause-whole g c =
    on_ok_weaker c.write_clauses.result (λ text. record { used = c.in_ok-used.used; is_part = c.in_ok-used.ensures; text = text }) c.write_clauses.ensures.whole

pub returns-clause-beginning : goal.returns-clause-beginning
returns-clause-beginning g c =
    on_err_weaker c.write_clauses.result (λ text. record { used = c.in_ok-used.used; is_part = c.in_ok-used.ensures; text = text }) c.write_clauses.ensures.beginning
