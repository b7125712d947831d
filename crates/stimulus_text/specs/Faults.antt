-- Why no stimulus is given.
--     StimulusFault, FailsBy shape known fault      a fault of a stimulus;  the text is of no stimulus, or could not be read
use Rattle.std.specs.Prelude.{◌≡◌, ℕ, List, Option, None, IfSome}
use Rattle.sat_formula.specs.declared.read_fault.LineNumber.{LineNumber}
use Rattle.sat_formula.specs.declared.read_fault.ReadFault.{ReadFault}
use Rattle.sat_formula.specs.declared.read_fault.ReadFault.TheVariants as faults
use Rattle.stimulus_text.specs.declared.fault.StimulusKind.{StimulusKind}
use Rattle.stimulus_text.specs.declared.spot.Shape.{Shape}
use Rattle.stimulus_text.specs.automaton.Texts.{Faulty, outcome_of}
use Rattle.stimulus_text.specs.Written.{stimulus_of}

-- a fault of a stimulus
abbrev pub StimulusFault : Type 0
StimulusFault = ReadFault LineNumber StimulusKind

-- the text is of no stimulus, and this is its first fault, with its line
pub record IsFaulty (shape : Shape) (text : List ℕ) (line : ℕ) (kind : StimulusKind) : Type 0 where
  pub of_none : stimulus_of shape text ≡ None
  pub first : outcome_of shape text ≡ Faulty line kind

-- the fault of the text, if it is known; a failed read and running out of memory can come anywhere
abbrev pub FailsBy : Shape → Option (List ℕ) → StimulusFault → Type 0
FailsBy shape known (faults.Read e) = Unit {0}
FailsBy shape known (faults.Wrong at kind) = IfSome known (λ text. IsFaulty shape text at.0 kind)
FailsBy shape known faults.OutOfMemory = Unit {0}
