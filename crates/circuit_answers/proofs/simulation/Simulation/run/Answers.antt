use Rattle.std.proofs.Common.{map, ap}
use Rattle.circuit_rules.specs.Circuits.{run_gates, simulated}
use Rattle.circuit_text.specs.Circuits.{gate_of}
use Rattle.circuit_answers.specs.Simulations.{assigned, values_of}
use Rattle.circuit_answers.proofs.SimulationLemmas.{gate_on, gates_all, started}
use Rattle.circuit_answers.proofs.simulation.Simulation.run.Goals as goal

pub loop-gate-init : goal.loop-gate-init
loop-gate-init c = ap (λ a. run_gates a (map gate_of c.args.gates.now)) (started c.args.input.now _ c.in_ok-simulation.ensures)

pub loop-gate-preserved : goal.loop-gate-preserved
loop-gate-preserved c =
    gate_on gate_of c.args.gates.now c.loop-gate.gate-index c.gate-item.result c.loop-gate-test.true c.gate-item.is (values_of c.loop-gate.simulation)
    (values_of c.run_gate.new.self) (simulated (assigned c.args.input.now) (map gate_of c.args.gates.now)) c.in_ok-run_gate.ensures c.loop-gate.invariant

pub returns : goal.returns
returns c =
    gates_all gate_of c.args.gates.now c.loop-gate.gate-index (values_of c.loop-gate.simulation) (simulated (assigned c.args.input.now) (map gate_of c.args.gates.now))
    c.loop-gate-test.false c.loop-gate.invariant
