use Rattle.circuit_check.proofs.FaultLemmas.{same_fails}
use Rattle.circuit_check.proofs.formulas.read_same.Goals as goal

pub returns-in-Err-clause-fault : goal.returns-in-Err-clause-fault
returns-in-Err-clause-fault c = same_fails _ _ _ _ c.in-Err.ensures.fault

pub returns-in-Ok-same_formula-clause-formula : goal.returns-in-Ok-same_formula-clause-formula
returns-in-Ok-same_formula-clause-formula c = record {
  circuit = c.in-Ok.circuits.0;
  second = c.in-Ok.circuits.1;
  gates = c.in-Ok.ensures.first;
  is = c.in-Ok.ensures.second;
  has = c.in-Ok-same_formula.ensures.formula;
  none = c.in-Ok-same_formula.ensures.none;
}

pub returns-clause-fault : goal.returns-clause-fault
returns-clause-fault c = record {
  circuit = c.in-Ok.circuits.0;
  second = c.in-Ok.circuits.1;
  gates = c.in-Ok.ensures.first;
  is = c.in-Ok.ensures.second;
  holds = c.in-Err-same_formula.ensures.fault;
}
