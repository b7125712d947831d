-- What a text in AIGER says, in the binary or the text form: a circuit, or the first fault.
--     outcome_of text      the circuit, or the fault and where it is
use Rattle.std.specs.Prelude.{ℕ, List, [], ◌∷◌, if◌then◌else◌}
use Rattle.circuit_text.specs.declared.fault.AigerKind.{AigerKind}
use Rattle.circuit_text.specs.declared.fault.AigerKind.TheVariants.{Unfinished}
use Rattle.circuit_text.specs.declared.fault.Location.{Location}
use Rattle.circuit_text.specs.declared.spot.Spot.{Spot}
use Rattle.circuit_text.specs.declared.spot.After.{After}
use Rattle.circuit_text.specs.declared.spot.After.TheVariants.{Next, Gives, Stops}
use Rattle.circuit_text.specs.automaton.Items.{no_circuit, with_item}
use Rattle.circuit_text.specs.Circuits.{Circuit}
use Rattle.circuit_text.specs.automaton.Places.{after, is_done, location, start}

-- the text says a circuit, or has this fault
pub data Outcome : Type 0 where
  Says : Circuit → Outcome
  Faulty : Location → AigerKind → Outcome

-- after a byte: the circuit so far and where the reading is, or a fault
pub data Step : Type 0 where
  On : Circuit → Spot → Step
  Off : Location → AigerKind → Step

-- what a byte does to the circuit so far
abbrev pub taken : Circuit → Location → After → Step
taken c at (Next s) = On c s
taken c at (Gives item s) = On (with_item c item) s
taken c at (Stops kind) = Off at kind

-- one byte
abbrev pub step : Circuit → Spot → ℕ → Step
step c s b = taken c (location s) (after s b)

-- the end of the text
abbrev pub at_end : Circuit → Spot → Outcome
at_end c s =
    if is_done s.place then Says (record c { inputs = s.header.inputs }) else Faulty (location s) Unfinished

-- from a spot on, with the circuit so far
unfoldable pub outcome_at : Circuit → Spot → List ℕ → Outcome
outcome_at c s [] = at_end c s
outcome_at c s (b ∷ bs) = elim (step c s b) [
  | On more next ↦ outcome_at more next bs
  | Off at kind ↦ Faulty at kind
]

-- the whole text
abbrev pub outcome_of : List ℕ → Outcome
outcome_of text = outcome_at no_circuit start text
