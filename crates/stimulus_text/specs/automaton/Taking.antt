-- What the reader does at a byte and at the end.
--     IsTaken step t r      what was read and the spot after a byte, or why it was not taken
--     Ends o r      what the text says, where it ends
use Rattle.std.specs.Prelude.{◌≡◌, Result, Ok, Err}
use Rattle.sat_formula.specs.declared.read_fault.LineNumber.{LineNumber}
use Rattle.sat_formula.specs.declared.read_fault.UntakenByte.{UntakenByte}
use Rattle.sat_formula.specs.declared.read_fault.UntakenByte.TheVariants as untaken
use Rattle.stimulus_text.specs.declared.fault.StimulusKind.{StimulusKind}
use Rattle.stimulus_text.specs.declared.spot.Spot.{Spot}
use Rattle.stimulus_text.specs.declared.stimulus.Stimulus.{Stimulus}
use Rattle.stimulus_text.specs.declared.stimulus.Told as read
use Rattle.stimulus_text.specs.Stimuli.{inputs_in}
use Rattle.stimulus_text.specs.automaton.Items.{told_by}
use Rattle.stimulus_text.specs.automaton.Texts.{Outcome, Says, Faulty, Step, On, Off}

-- what a stimulus says
abbrev pub said_by : Stimulus → Outcome
said_by s = Says s.first.items (inputs_in s.steps.items)

-- what a byte did: what was read and the spot after it, or why it was not taken
abbrev pub IsTaken : Step → read.Told → Result Spot (UntakenByte LineNumber StimulusKind) → Type 0
IsTaken step t (Ok s) = step ≡ On (told_by t) s
IsTaken step t (Err (untaken.Wrong at kind)) = step ≡ Off at.0 kind
IsTaken step t (Err untaken.OutOfMemory) = Unit {0}

-- the end of the text, which says this
abbrev pub Ends : Outcome → Result Stimulus (UntakenByte LineNumber StimulusKind) → Type 0
Ends o (Ok s) = o ≡ said_by s
Ends o (Err (untaken.Wrong at kind)) = o ≡ Faulty at.0 kind
Ends o (Err untaken.OutOfMemory) = Unit {0}
