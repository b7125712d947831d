use Rattle.circuit_check.proofs.FaultLemmas.{safe_fails}
use Rattle.circuit_check.proofs.formulas.read_safe.Goals as goal

pub returns-in-Err-clause-fault : goal.returns-in-Err-clause-fault
returns-in-Err-clause-fault g c = safe_fails _ _ _ c.in-Err.ensures.fault
