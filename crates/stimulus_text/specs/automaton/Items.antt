-- What was read so far.
--     told_by t, with_item t item      what was read so far, and with one item more
use Rattle.std.specs.Prelude.{Bool, List, [], ◌∷◌, ◌++◌}
use Rattle.stimulus_text.specs.declared.stimulus.Item.{Item}
use Rattle.stimulus_text.specs.declared.stimulus.Item.TheVariants.{OfLatch, OfInput, OfStep}
use Rattle.stimulus_text.specs.declared.stimulus.Told as read
use Rattle.stimulus_text.specs.Stimuli.{inputs_in}

-- the first values of the latches; the values of the inputs at each step; those of the line that is read
pub record Told : Type 0 where
  pub first : List Bool
  pub steps : List (List Bool)
  pub inputs : List Bool

-- what was read so far
abbrev pub told_by : read.Told → Told
told_by t = record { first = t.first.items; steps = inputs_in t.steps.items; inputs = t.inputs.items }

-- before the first item
abbrev pub nothing_told : Told
nothing_told = record { first = []; steps = []; inputs = [] }

-- an item behind those of its kind
abbrev pub with_item : Told → Item → Told
with_item t (OfLatch b) = record t { first = t.first ++ b ∷ [] }
with_item t (OfInput b) = record t { inputs = t.inputs ++ b ∷ [] }
with_item t OfStep = record t { steps = t.steps ++ t.inputs ∷ []; inputs = [] }
