-- Why no circuit is returned.
--     FailsBy known fault      the text is of no circuit, or could not be read
use Rattle.std.specs.Prelude.{◌≡◌, ℕ, List, Option, IfSome}
use Rattle.sat_formula.specs.declared.read_fault.ReadFault.{ReadFault}
use Rattle.sat_formula.specs.declared.read_fault.ReadFault.TheVariants as faults
use Rattle.circuit_text.specs.declared.fault.AigerKind.{AigerKind}
use Rattle.circuit_text.specs.declared.fault.Location.{Location}
use Rattle.circuit_text.specs.automaton.Aigers.{Faulty, outcome_of}
use Rattle.circuit_text.specs.Circuits.{Circuit}
use Rattle.circuit_text.specs.Written.{IsAiger}

-- the text is of no circuit, and this is its first fault
pub record IsFaulty (text : List ℕ) (at : Location) (kind : AigerKind) : Type 0 where
  pub of_none : (c : Circuit) → IsAiger text c → ⊥
  pub first : outcome_of text ≡ Faulty at kind

-- the fault of the text, if it is known; a failed read and running out of memory can come anywhere
abbrev pub FailsBy : Option (List ℕ) → ReadFault Location AigerKind → Type 0
FailsBy known (faults.Read e) = Unit {0}
FailsBy known (faults.Wrong at kind) = IfSome known (λ text. IsFaulty text at kind)
FailsBy known faults.OutOfMemory = Unit {0}
