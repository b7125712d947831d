use Rattle.circuit_text.specs.Circuits.{gate_of}
use Rattle.circuit_clauses.proofs.ClauseLemmas.{circuit_more}
use Rattle.circuit_clauses.proofs.gates.add_circuit.Goals as goal

pub loop-gate-preserved : goal.loop-gate-preserved
loop-gate-preserved c =
    circuit_more gate_of c.args.gates.now c.loop-gate.gate-index c.gate-item.result c.args.formula.now c.loop-gate.formula c.add_gate.new.formula c.loop-gate-test.true
    c.gate-item.is c.in_ok-add_gate.ensures c.loop-gate.invariant
