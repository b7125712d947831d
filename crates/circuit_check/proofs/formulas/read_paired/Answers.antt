use Rattle.circuit_check.proofs.FaultLemmas.{paired_fail}
use Rattle.circuit_check.proofs.formulas.read_paired.Goals as goal

pub returns-in-Err-clause-fault : goal.returns-in-Err-clause-fault
returns-in-Err-clause-fault c = paired_fail _ _ _ _ c.in-Err.ensures.fault

pub returns-in-Ok-paired-clause-second : goal.returns-in-Ok-paired-clause-second
returns-in-Ok-paired-clause-second c = record {
  circuit = c.in-Ok.circuits.1;
  gates = c.in-Ok.ensures.second;
  pairs = c.in-Ok-paired.ensures.paired;
}

pub returns-in-Err-paired-clause-fault : goal.returns-in-Err-paired-clause-fault
returns-in-Err-paired-clause-fault c = record {
  asked = c.in-Err-paired.ensures.asked;
  circuit = c.in-Ok.circuits.0;
  circuit' = c.in-Ok.circuits.1;
  gates = c.in-Ok.ensures.first;
  gates' = c.in-Ok.ensures.second;
  names = c.in-Err-paired.ensures.fault;
}
