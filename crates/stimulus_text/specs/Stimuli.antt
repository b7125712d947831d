-- Stimuli as they were read.
--     inputs_in steps      the values of the inputs, step after step
use Rattle.std.specs.Prelude.{Bool, List, map}
use Rattle.stimulus_text.specs.declared.stimulus.Step.{Step}

-- the values of the inputs in a step that was read
abbrev pub inputs_of : Step → List Bool
inputs_of step = step.inputs.items

-- in each step
abbrev pub inputs_in : List Step → List (List Bool)
inputs_in steps = map inputs_of steps
