-- Words of a text that is written.
--     literal_text l      a literal by its code, as in DIMACS
--     spaced_word w, spaced ws      a word before a space, and words, each before one
--     line_text ws      a line of these words and a last 0, without its LF
--     IsCode l, IsId id      what these words can say: a literal of 2^28 variables, an id
use Rattle.std.specs.Prelude.{ℕ, suc, ◌^◌, ◌<◌, if◌then◌else◌, List, [], ◌∷◌, ◌++◌, codes, decimal}
use Rattle.sat_rules.specs.Clauses.{is_negative, var_of}
use Rattle.sat_formula.specs.Bytes.{minus_sign}

-- a literal, as in DIMACS
abbrev pub literal_text : ℕ → List ℕ
literal_text l =
    if is_negative l then minus_sign ∷ decimal (suc (var_of l))
    else decimal (suc (var_of l))

-- a word, and a space
abbrev pub spaced_word : List ℕ → List ℕ
spaced_word word = word ++ codes " "

-- words, each before a space
abbrev pub spaced : List (List ℕ) → List ℕ
spaced [] = []
spaced (w ∷ ws) = spaced_word w ++ spaced ws

-- words and a last 0
abbrev pub line_text : List (List ℕ) → List ℕ
line_text words = spaced words ++ codes "0"

-- the code of a literal of one of 2^28 variables
abbrev pub IsCode : ℕ → Type 0
IsCode l = l < 2 ^ 29

-- an id from 1 to 2^64 - 1
abbrev pub IsId : ℕ → Type 0
IsId id = (0 < id) × (id < 2 ^ 64)
