use Rattle.circuit_check.proofs.FaultLemmas.{never_fails}
use Rattle.circuit_check.proofs.formulas.read_never.Goals as goal

pub returns-in-Err-clause-fault : goal.returns-in-Err-clause-fault
returns-in-Err-clause-fault g c = never_fails _ _ c.in-Err.ensures.fault

pub returns-in-Ok-never_formula-clause-formula : goal.returns-in-Ok-never_formula-clause-formula
returns-in-Ok-never_formula-clause-formula g c = record {
  circuit = c.in-Ok.circuit;
  says = c.in-Ok.ensures.gates.says;
  shape = c.in-Ok.ensures.gates.shape;
  has = c.in-Ok-never_formula.ensures.formula;
  none = c.in-Ok-never_formula.ensures.none;
}

pub returns-clause-fault : goal.returns-clause-fault
returns-clause-fault g c = record { circuit = c.in-Ok.circuit; gates = c.in-Ok.ensures.gates; holds = c.in-Err-never_formula.ensures.fault }
