use Rattle.std.proofs.Common.{◌≡◌, map, drop}
use Rattle.circuit_rules.specs.Circuits.{run_gates, simulated}
use Rattle.circuit_text.specs.Circuits.{gate_of}
use Rattle.circuit_answers.specs.Simulations.{assigned, values_of}
use Rattle.circuit_answers.proofs.simulation.Simulation.run.Given as goal

-- after the gates to come they are the values after all
abbrev pub invariant-loop-gate : goal.invariant-loop-gate
invariant-loop-gate l =
    run_gates (values_of l.simulation) (map gate_of (drop l.gate-index l.gates)) ≡ simulated (assigned l.input) (map gate_of l.gates)
