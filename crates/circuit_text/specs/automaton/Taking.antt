-- What the reader does at a byte and at the end.
--     IsTaken step c r      the circuit and the spot after a byte, or why it was not taken
--     Ends o r      what the text says, where it ends
use Rattle.std.specs.Prelude.{◌≡◌, Result, Ok, Err}
use Rattle.sat_formula.specs.declared.read_fault.UntakenByte.{UntakenByte}
use Rattle.sat_formula.specs.declared.read_fault.UntakenByte.TheVariants as untaken
use Rattle.circuit_text.specs.declared.circuit.Circuit as read
use Rattle.circuit_text.specs.declared.fault.AigerKind.{AigerKind}
use Rattle.circuit_text.specs.declared.fault.Location.{Location}
use Rattle.circuit_text.specs.declared.spot.Spot.{Spot}
use Rattle.circuit_text.specs.automaton.Aigers.{Outcome, Says, Faulty, Step, On, Off}
use Rattle.circuit_text.specs.Circuits.{circuit_of}

-- what a byte did: the circuit and the spot after it, or why it was not taken
abbrev pub IsTaken : Step → read.Circuit → Result Spot (UntakenByte Location AigerKind) → Type 0
IsTaken step c (Ok s) = step ≡ On (circuit_of c) s
IsTaken step c (Err (untaken.Wrong at kind)) = step ≡ Off at kind
IsTaken step c (Err untaken.OutOfMemory) = Unit {0}

-- the end of the text, which says this
abbrev pub Ends : Outcome → Result read.Circuit (UntakenByte Location AigerKind) → Type 0
Ends o (Ok c) = o ≡ Says (circuit_of c)
Ends o (Err (untaken.Wrong at kind)) = o ≡ Faulty at kind
Ends o (Err untaken.OutOfMemory) = Unit {0}
