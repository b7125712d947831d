use Rattle.varisat_check.proofs.ReadFormulaLemmas.{read-fault}
use Rattle.varisat_check.proofs.formula.read_formula.Goals as goal

pub returns-in-Err-clause-whole : goal.returns-in-Err-clause-whole
returns-in-Err-clause-whole g c =
    rw c.from.ensures (read-fault (g.F.Read.remaining c.args.cnf) c.in-Err.fault c.in-Err.ensures.fault.0 c.in-Err.ensures.fault.1)
