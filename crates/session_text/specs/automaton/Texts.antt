-- A text of a session, byte after byte: its lines, and how it ends.
--     outcome_read format text      what the whole text says
use Rattle.std.specs.Prelude.{ℕ, List, [], ◌∷◌, Option, Some, None}
use Rattle.session_text.specs.declared.fault.TextKind.{TextKind}
use Rattle.session_text.specs.declared.format.Format.{Format}
use Rattle.session_text.specs.declared.spot.After.{After}
use Rattle.session_text.specs.declared.spot.After.TheVariants.{Ends, Gives, Goes, Stops}
use Rattle.session_text.specs.declared.spot.Spot.{Spot}
use Rattle.session_text.specs.Content.{Content, no_content, with_item}
use Rattle.session_text.specs.Outcomes.{Ended, Ending, Faulty, Line, Outcome, with_line}
use Rattle.session_text.specs.automaton.Places.{after, at_end, start}

-- after a byte: what stands in the line so far, and where the reading is; a line;  a fault
pub data Step : Type 0 where
  On : Content → Spot → Step
  Says : Line → Spot → Step
  Off : (line : ℕ) → TextKind → Step

-- what a byte on this line does to what stands in it so far
abbrev pub taken : Content → ℕ → After → Step
taken c line (Goes s) = On c s
taken c line (Gives item s) = On (with_item c item) s
taken c line (Ends kind s) = Says (record { kind = kind; content = c }) s
taken c line (Stops kind) = Off line kind

-- one byte
abbrev pub step : Content → Spot → ℕ → Step
step c s b = taken c s.line (after s b)

-- a fault on this line, or none
abbrev pub ending_by : ℕ → Option TextKind → Ending
ending_by line None = Ended
ending_by line (Some kind) = Faulty line kind

-- the end of the text
abbrev pub ending_at : Spot → Ending
ending_at s = ending_by s.line (at_end s)

-- from a spot on, after what stands in the line
unfoldable pub outcome_at : Content → Spot → List ℕ → Outcome
outcome_at c s [] = ([], ending_at s)
outcome_at c s (b ∷ bs) = elim (step c s b) [
  | On more next ↦ outcome_at more next bs
  | Says line next ↦ with_line line (outcome_at no_content next bs)
  | Off line kind ↦ ([], Faulty line kind)
]

-- the whole text
abbrev pub outcome_read : Format → List ℕ → Outcome
outcome_read format text = outcome_at no_content (start format) text
