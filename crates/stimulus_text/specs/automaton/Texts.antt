-- What the text of a stimulus says: the values, or the first fault.
--     outcome_of shape text      the values, or the fault and its line, for a machine of this shape
use Rattle.std.specs.Prelude.{ℕ, Bool, List, [], ◌∷◌, if◌then◌else◌}
use Rattle.stimulus_text.specs.declared.fault.StimulusKind.{StimulusKind}
use Rattle.stimulus_text.specs.declared.fault.StimulusKind.TheVariants.{Unfinished}
use Rattle.stimulus_text.specs.declared.spot.Shape.{Shape}
use Rattle.stimulus_text.specs.declared.spot.Spot.{Spot}
use Rattle.stimulus_text.specs.declared.spot.After.{After}
use Rattle.stimulus_text.specs.declared.spot.After.TheVariants.{Next, Gives, Stops}
use Rattle.stimulus_text.specs.automaton.Places.{after, is_done, start}
use Rattle.stimulus_text.specs.automaton.Items.{Told, nothing_told, with_item}

-- the first values of the latches and the values of the inputs at each step; or a fault, and its line
pub data Outcome : Type 0 where
  Says : List Bool → List (List Bool) → Outcome
  Faulty : ℕ → StimulusKind → Outcome

-- after a byte: what was read so far and where the reading is, or a fault and its line
pub data Step : Type 0 where
  On : Told → Spot → Step
  Off : ℕ → StimulusKind → Step

-- what a byte of this line does
abbrev pub taken : Told → ℕ → After → Step
taken t line (Next s) = On t s
taken t line (Gives item s) = On (with_item t item) s
taken t line (Stops kind) = Off line kind

-- one byte
abbrev pub step : Told → Spot → ℕ → Step
step t s b = taken t s.line (after s b)

-- the end of the text
abbrev pub at_end : Told → Spot → Outcome
at_end t s = if is_done s.place then Says t.first t.steps else Faulty s.line Unfinished

-- from a spot on, after what was read so far
unfoldable pub outcome_at : Told → Spot → List ℕ → Outcome
outcome_at t s [] = at_end t s
outcome_at t s (b ∷ bs) = elim (step t s b) [
  | On more next ↦ outcome_at more next bs
  | Off line kind ↦ Faulty line kind
]

-- the whole text
abbrev pub outcome_of : Shape → List ℕ → Outcome
outcome_of shape text = outcome_at nothing_told (start shape) text
