-- What reading a stimulus gives.
--     IsRead shape known s      the text is of this stimulus
use Rattle.std.specs.Prelude.{◌≡◌, ℕ, List, Option, Some, IfSome}
use Rattle.stimulus_text.specs.declared.spot.Shape.{Shape}
use Rattle.stimulus_text.specs.declared.stimulus.Stimulus.{Stimulus}
use Rattle.stimulus_text.specs.Stimuli.{inputs_in}
use Rattle.stimulus_text.specs.Written.{stimulus_of}

-- the text, if it is known, is of this stimulus
abbrev pub IsRead : Shape → Option (List ℕ) → Stimulus → Type 0
IsRead shape known s = IfSome known (λ text. stimulus_of shape text ≡ Some (s.first.items, inputs_in s.steps.items))
