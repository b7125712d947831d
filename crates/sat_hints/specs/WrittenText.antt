-- The text of a line of hints, without its LF.
--     first_number x, further_words x      the first word's number, and the words after it, before the last 0
--     text_of x, lines_text xs      the line, and lines with their LF
--     HasFittingNumbers x      what the words of a line can say
--     WrittenIsRead      such a line is read again
use Rattle.std.specs.Prelude.{◌≡◌, ℕ, ◌^◌, ◌<◌, List, [], ◌∷◌, ◌++◌, map, codes, decimal, All}
use Rattle.sat_rules.specs.HintLines.{HintLine, adds_clause, deletes_clauses}
use Rattle.hint_rules.specs.Text.{Line, said_by}
use Rattle.written_numbers.specs.Words.{IsCode, IsId, line_text, literal_text}

-- the number in front
abbrev pub first_number : HintLine → ℕ
first_number (adds_clause id c hints) = id
first_number (deletes_clauses number ids) = number

-- the words between it and the last 0: literals, 0 and hints, or d and ids
abbrev pub further_words : HintLine → List (List ℕ)
further_words (adds_clause id c hints) = map literal_text c ++ codes "0" ∷ map decimal hints
further_words (deletes_clauses number ids) = codes "d" ∷ map decimal ids

-- a line
abbrev pub text_of : HintLine → List ℕ
text_of x = line_text (decimal (first_number x) ∷ further_words x)

-- what the words of a line can say; the number of a deletion may be 0
abbrev pub HasFittingNumbers : HintLine → Type 0
HasFittingNumbers (adds_clause id c hints) = IsId id × All IsCode c × All IsId hints
HasFittingNumbers (deletes_clauses number ids) = (number < 2 ^ 64) × All IsId ids

-- what is written of such a line is read as that line
abbrev pub WrittenIsRead : Type 0
WrittenIsRead = (x : HintLine) → HasFittingNumbers x → said_by (text_of x) ≡ Line x

-- lines, each with its LF
abbrev pub lines_text : List HintLine → List ℕ
lines_text [] = []
lines_text (x ∷ xs) = text_of x ++ 10 ∷ lines_text xs
