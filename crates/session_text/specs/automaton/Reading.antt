-- What the parts of reading a line answer.
use Rattle.std.specs.Prelude.{◌≡◌, Option, Some, None, Result, Ok, Err}
use Rattle.session_text.specs.declared.fault.TextKind.{TextKind}
use Rattle.sat_formula.specs.declared.read_fault.LineNumber.{LineNumber}
use Rattle.sat_formula.specs.declared.read_fault.ReadFault.{ReadFault}
use Rattle.sat_formula.specs.declared.read_fault.ReadFault.TheVariants as faults
use Rattle.sat_formula.specs.declared.read_fault.UntakenByte.{UntakenByte}
use Rattle.sat_formula.specs.declared.read_fault.UntakenByte.TheVariants as untaken
use Rattle.session_text.specs.declared.line.LineKind.{LineKind}
use Rattle.session_text.specs.declared.spot.Spot.{Spot}
use Rattle.session_text.specs.Content.{Content}
use Rattle.session_text.specs.Outcomes.{Ended, Ending, Faulty}
use Rattle.session_text.specs.automaton.Texts.{Off, On, Says, Step}

-- what a byte did: what stands in the line after it and where the reading is, or why it was not taken
abbrev pub IsTaken : Step → Content → Spot → Result (Option LineKind) (UntakenByte LineNumber TextKind) → Type 0
IsTaken step c s (Ok None) = step ≡ On c s
IsTaken step c s (Ok (Some kind)) = step ≡ Says (record { kind = kind; content = c }) s
IsTaken step c s (Err (untaken.Wrong at kind)) = step ≡ Off at.0 kind
IsTaken step c s (Err untaken.OutOfMemory) = Unit {0}

-- the end of a text
abbrev pub Ends : Ending → Result (Option LineKind) (ReadFault LineNumber TextKind) → Type 0
Ends e (Ok None) = e ≡ Ended
Ends e (Ok (Some kind)) = ⊥
Ends e (Err (faults.Read error)) = ⊥
Ends e (Err (faults.Wrong at kind)) = e ≡ Faulty at.0 kind
Ends e (Err faults.OutOfMemory) = ⊥
