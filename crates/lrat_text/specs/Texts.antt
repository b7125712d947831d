-- LRAT text: its lines, and how it ends.
use Rattle.std.specs.Prelude.{ℕ, List, [], ◌∷◌, ◌++◌, Option, Some, None, Result, Ok, Err}
use Rattle.sat_formula.specs.Lines.{lines_of, words_of}
use Rattle.sat_formula.specs.Outcome.{next_line}
use Rattle.lrat_rules.specs.Lines.{Line}
use Rattle.lrat_text.specs.declared.fault.LineKind.{LineKind}
use Rattle.lrat_text.specs.declared.fault.LineKind.TheVariants.{Malformed, Unfinished}
use Rattle.lrat_text.specs.Grammar.{says}

-- well, or with a fault and the number of its line
pub data Ending : Type 0 where
  Ended : Ending
  Faulty : ℕ → LineKind → Ending

-- the lines that say something, each with its number, up to the ending
abbrev pub Outcome : Type 0
Outcome = List (ℕ × Line) × Ending

-- an outcome after this line
abbrev pub with_line : ℕ → Line → Outcome → Outcome
with_line number line o = ((number, line) ∷ o.0, o.1)

-- an outcome after these lines
abbrev pub with_lines : List (ℕ × Line) → Outcome → Outcome
with_lines ls o = (ls ++ o.0, o.1)

-- an outcome after the line of this number, which says nothing, or a line, or ends it by a fault
abbrev pub line_then : ℕ → Result (Option Line) LineKind → Outcome → Outcome
line_then number (Ok None) later = later
line_then number (Ok (Some line)) later = with_line number line later
line_then number (Err kind) later = ([], Faulty number kind)

-- what a line is that ends before its last 0: the text ends within it, or another line follows
abbrev pub short_before : List (List ℕ) → LineKind
short_before [] = Unfinished
short_before (line ∷ lines) = Malformed

-- the lines after the one of this number
abbrev pub lines_from : ℕ → List (List ℕ) → Outcome
lines_from before [] = ([], Ended)
lines_from before (line ∷ lines) =
    line_then (next_line before) (says (short_before lines) (words_of line))
    (lines_from (next_line before) lines)

-- the rest of a text, after the line of this number
abbrev pub outcome_after : ℕ → List ℕ → Outcome
outcome_after before text = lines_from before (lines_of text)

-- the whole text; its lines count from 1
abbrev pub outcome_of : List ℕ → Outcome
outcome_of text = outcome_after 0 text
