-- The text of LRAT lines.
--     hint_text h      a hint
--     addition_words, deletion_words      the words of a line before its last 0
--     last_after last x      the number in front of a deletion that follows a line
--     lines_text last xs      lines, each with its LF, where a deletion has the number of the last addition in front
--     HasFittingNumbers x      what the words of a line can say
--     numbered n xs      lines, each with its number in the text, after n lines
--     LinesAreRead      the text of such lines is read as those lines
use Rattle.std.specs.Prelude.{◌≡◌, ℕ, ◌^◌, ◌<◌, List, [], ◌∷◌, ◌++◌, map, codes, decimal, All}
use Rattle.lrat_rules.specs.Lines.{Hint, Line, along, against, adds, deletes}
use Rattle.lrat_text.specs.Texts.{Ended, outcome_of}
use Rattle.sat_formula.specs.Bytes.{minus_sign}
use Rattle.sat_formula.specs.Outcome.{next_line}
use Rattle.written_numbers.specs.Words.{IsCode, IsId, line_text, literal_text}

-- a hint: an id, after a `-` where a group begins
abbrev pub hint_text : Hint → List ℕ
hint_text (along id) = decimal id
hint_text (against id) = minus_sign ∷ decimal id

-- the words of an addition before its last 0: id, literals, 0, hints
abbrev pub addition_words : ℕ → List ℕ → List Hint → List (List ℕ)
addition_words id c hints =
    decimal id ∷ map literal_text c ++ codes "0" ∷ map hint_text hints

-- the words of a deletion before its last 0: a number, d, ids
abbrev pub deletion_words : ℕ → List ℕ → List (List ℕ)
deletion_words last ids = decimal last ∷ codes "d" ∷ map decimal ids

-- the words of a line before its last 0
abbrev pub words_before_end : ℕ → Line → List (List ℕ)
words_before_end last (adds id c hints) = addition_words id c hints
words_before_end last (deletes ids) = deletion_words last ids

-- the id of the last addition
abbrev pub last_after : ℕ → Line → ℕ
last_after last (adds id c hints) = id
last_after last (deletes ids) = last

-- lines, each with its LF; a deletion has the id of the last addition in front, and `last` before any
abbrev pub lines_text : ℕ → List Line → List ℕ
lines_text last [] = []
lines_text last (x ∷ xs) =
    line_text (words_before_end last x) ++ 10 ∷ lines_text (last_after last x) xs

-- what the words of a hint can say
abbrev pub IsHint : Hint → Type 0
IsHint (along id) = IsId id
IsHint (against id) = IsId id

-- what the words of a line can say
abbrev pub HasFittingNumbers : Line → Type 0
HasFittingNumbers (adds id c hints) = IsId id × All IsCode c × All IsHint hints
HasFittingNumbers (deletes ids) = All IsId ids

-- lines, each with its number in the text, after n lines
abbrev pub numbered : ℕ → List Line → List (ℕ × Line)
numbered n [] = []
numbered n (x ∷ xs) = (next_line n, x) ∷ numbered (next_line n) xs

-- what is written of such lines is read as those lines
abbrev pub LinesAreRead : Type 0
LinesAreRead = (last : ℕ) (xs : List Line) → last < 2 ^ 64 → All HasFittingNumbers xs →
    outcome_of (lines_text last xs) ≡ (numbered 0 xs, Ended)
