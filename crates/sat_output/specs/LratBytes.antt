-- The bytes of LRAT lines in the binary form, with plain ids.
--     numbers_bytes ns      numbers
--     lit_number l, hint_number h      the number of a literal, by its code, and that of a hint
--     line_bytes x, lines_bytes xs      a line, and lines
--     HasLargeHint x      the number of a hint is none of 64 bits
--     HasBinaryNumbers x      what the numbers of a line can say, in nine bytes each
--     BytesAreRead      the bytes of such lines are read as those lines
use Rattle.std.specs.Prelude.{◌≡◌, ℕ, ◌+◌, ◌*◌, ◌^◌, ◌<◌, ◌≤◌, List, [], ◌∷◌, ◌++◌, map, All, Any}
use Rattle.lrat_rules.specs.Lines.{Hint, Line, along, against, adds, deletes}
use Rattle.lrat_text.specs.Texts.{Ended}
use Rattle.lrat_binary.specs.Lines.{binary_of}
use Rattle.lrat_binary.specs.Places.{letter_a, letter_d}
use Rattle.lrat_binary.specs.declared.ids.Ids.TheVariants.{Plain}
use Rattle.written_numbers.specs.GroupedBytes.{number_bytes}
use Rattle.written_numbers.specs.Words.{IsCode}
use Rattle.sat_output.specs.LratTexts.{numbered}

-- numbers
abbrev pub numbers_bytes : List ℕ → List ℕ
numbers_bytes [] = []
numbers_bytes (n ∷ ns) = number_bytes n ++ numbers_bytes ns

-- twice the number of the variable, and 1 more where the literal is negative
abbrev pub lit_number : ℕ → ℕ
lit_number l = l + 2

-- twice the id, and 1 more where a group begins
abbrev pub hint_number : Hint → ℕ
hint_number (along id) = id * 2
hint_number (against id) = id * 2 + 1

-- the id that a hint names
abbrev pub hint_id : Hint → ℕ
hint_id (along id) = id
hint_id (against id) = id

-- a hint has an id of 2^63 or more: its number is none of 64 bits
abbrev pub HasLargeHint : Line → Type 0
HasLargeHint (adds id c hints) = Any (λ h. 2 ^ 63 ≤ hint_id h) hints
HasLargeHint (deletes ids) = ⊥

-- `a` id literals 0 hints 0, and `d` ids 0
abbrev pub line_bytes : Line → List ℕ
line_bytes (adds id c hints) =
    letter_a ∷ (number_bytes id ++ (numbers_bytes (map lit_number c)
    ++ 0 ∷ (numbers_bytes (map hint_number hints) ++ 0 ∷ [])))
line_bytes (deletes ids) = letter_d ∷ (numbers_bytes ids ++ 0 ∷ [])

-- lines
abbrev pub lines_bytes : List Line → List ℕ
lines_bytes [] = []
lines_bytes (x ∷ xs) = line_bytes x ++ lines_bytes xs

-- an id from 1 to 2^62 - 1
abbrev pub IsBinaryId : ℕ → Type 0
IsBinaryId id = (0 < id) × (id < 2 ^ 62)

-- what the number of a hint can say
abbrev pub IsBinaryHint : Hint → Type 0
IsBinaryHint (along id) = IsBinaryId id
IsBinaryHint (against id) = IsBinaryId id

-- what the numbers of a line can say
abbrev pub HasBinaryNumbers : Line → Type 0
HasBinaryNumbers (adds id c hints) = IsBinaryId id × All IsCode c × All IsBinaryHint hints
HasBinaryNumbers (deletes ids) = All IsBinaryId ids

-- what is written of such lines is read as those lines
abbrev pub BytesAreRead : Type 0
BytesAreRead = (xs : List Line) → All HasBinaryNumbers xs →
    binary_of Plain (lines_bytes xs) ≡ (numbered 0 xs, Ended)
