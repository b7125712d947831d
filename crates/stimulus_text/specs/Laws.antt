-- The law of the reader and of stimuli as they are written.
--     BytesAreLines      byte after byte a text says what its lines say
use Rattle.std.specs.Prelude.{◌≡◌, ℕ, Bool, List, Option, Some, None}
use Rattle.stimulus_text.specs.declared.spot.Shape.{Shape}
use Rattle.stimulus_text.specs.automaton.Texts.{Outcome, Says, Faulty, outcome_of}
use Rattle.stimulus_text.specs.Written.{stimulus_of}

-- what was read, if there is no fault
abbrev pub said : Outcome → Option (List Bool × List (List Bool))
said (Says first steps) = Some (first, steps)
said (Faulty line kind) = None

-- byte after byte a text says what its lines say
abbrev pub BytesAreLines : Type 0
BytesAreLines = (shape : Shape) (text : List ℕ) → said (outcome_of shape text) ≡ stimulus_of shape text
