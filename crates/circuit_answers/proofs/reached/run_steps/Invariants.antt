use Rattle.std.proofs.Common.{◌≡◌, drop}
use Rattle.circuit_clauses.specs.Machines.{machine_in}
use Rattle.stimulus_text.specs.Stimuli.{inputs_in}
use Rattle.circuit_answers.specs.Reached.{reach_from}
use Rattle.circuit_answers.proofs.reached.run_steps.Given as goal

-- from here on the machine does what it does after all
abbrev pub invariant-loop-step : goal.invariant-loop-step
invariant-loop-step l = record {
  count : l.index ≡ l.step-index;
  same : reach_from l.machine.inputs (machine_in l.machine) l.index l.states.items (inputs_in (drop l.step-index l.steps))
      ≡ reach_from l.machine.inputs (machine_in l.machine) 0 l.first (inputs_in l.steps);
}
