-- Why there is no verdict on an answer or a stimulus.
--     possible_cause c      of one circuit
--     different_cause c c'      of two circuits
--     reach_cause c      of a machine
use Rattle.std.specs.Prelude.{suc, ◌^◌, ◌==◌, nat_lt, Option, None, length}
use Rattle.circuit_text.specs.declared.circuit.Circuit.{Circuit}
use Rattle.circuit_clauses.specs.Causes.{has_outputs, unless}
use Rattle.circuit_clauses.specs.Machines.{machine_in}
use Rattle.circuit_clauses.specs.declared.fault.ClausesFault.{ClausesFault}
use Rattle.circuit_clauses.specs.declared.fault.ClausesFault.TheVariants.{NoOutputs, OtherInputs, OtherOutputs, OutOfRange, TooLarge}
use Rattle.circuit_answers.specs.Reached.{are_placed}

-- the first of these: no outputs; no literal for an input, as a variable is below 2^28
abbrev pub possible_cause : Circuit → Option ClausesFault
possible_cause c = unless (has_outputs c) NoOutputs (unless (nat_lt c.inputs (2 ^ 28)) TooLarge None)

-- the first of these: other numbers of inputs, or of outputs; no outputs, or no literal for an input
abbrev pub different_cause : Circuit → Circuit → Option ClausesFault
different_cause c c' =
    unless (c.inputs == c'.inputs) OtherInputs
    (unless (length c.outputs.items == length c'.outputs.items) OtherOutputs (possible_cause c))

-- the latches do not follow the inputs
abbrev pub reach_cause : Circuit → Option ClausesFault
reach_cause c = unless (are_placed (suc c.inputs) (machine_in c).latches) OutOfRange None
