-- What the text of hint lines says.
--     number_of_word w      a number of digits below 2^64
--     ids_to_end ws      the ids up to a last 0
--     clause_to_zero ws      the literals up to a 0, and the words after it
--     line_of_words ws      the line that the words say, where they say one
--     Said, said_by line      a line of text: passed over, a line of hints, or malformed
use Rattle.std.specs.Prelude.{ℕ, ◌^◌, Bool, true, false, if◌then◌else◌, nat_lt, ◌==◌, List, [], ◌∷◌, Option, Some, None, codes}
use Rattle.std.specs.Str.{bytes_eq}
use Rattle.sat_rules.specs.HintLines.{HintLine, adds_clause, deletes_clauses}
use Rattle.sat_formula.specs.Bytes.{letter_c, minus_sign}
use Rattle.sat_formula.specs.Lines.{value_of, words_of}
use Rattle.sat_formula.specs.Vars.{lit_code}

-- numbers are below 2^64
abbrev pub small : Option ℕ → Option ℕ
small None = None
small (Some v) = if nat_lt v (2 ^ 64) then Some v else None

-- the value of a word of digits; leading zeros are allowed
abbrev pub number_of_word : List ℕ → Option ℕ
number_of_word w = small (value_of w)

-- one more in front, where there is a list
abbrev pub in_front : {A : Type 0} → A → Option (List A) → Option (List A)
in_front x None = None
in_front x (Some xs) = Some (x ∷ xs)

-- nothing comes after a line's last 0
abbrev pub ends_here : List (List ℕ) → Option (List ℕ)
ends_here [] = Some []
ends_here (w ∷ ws) = None

-- an id, or the last 0
abbrev pub id_or_end : Option ℕ → List (List ℕ) → Option (List ℕ) → Option (List ℕ)
id_or_end None ws rest = None
id_or_end (Some v) ws rest = if v == 0 then ends_here ws else in_front v rest

-- ids up to a last 0
abbrev pub ids_to_end : List (List ℕ) → Option (List ℕ)
ids_to_end [] = None
ids_to_end (w ∷ ws) = id_or_end (number_of_word w) ws (ids_to_end ws)

-- the literals of a clause, and the words after its 0
abbrev pub Clause : Type 0
Clause = Option (List ℕ × List (List ℕ))

-- a literal in front
abbrev pub lit_in_front : ℕ → Clause → Clause
lit_in_front l None = None
lit_in_front l (Some p) = Some (l ∷ p.0, p.1)

-- what a word says in a clause: its end, a literal, or nothing
pub data ClauseWord : Type 0 where
  End : ClauseWord
  Literal : ℕ → ClauseWord
  Bad : ClauseWord

-- the word of a literal
abbrev pub literal_word : ℕ → ClauseWord
literal_word l = Literal l

-- digits of a value, or no digits, after a `-` or not
abbrev pub signed_word : Bool → Option ℕ → ClauseWord
signed_word negative None = Bad
signed_word negative (Some v) =
    if v == 0 then (if negative then Bad else End)
    else if nat_lt (2 ^ 28) v then Bad
    else Literal (lit_code v negative)

-- what a word says in a clause
abbrev pub clause_word : List ℕ → ClauseWord
clause_word [] = Bad
clause_word (b ∷ bs) =
    if b == minus_sign then signed_word true (number_of_word bs)
    else signed_word false (number_of_word (b ∷ bs))

-- by the word
abbrev pub on_word : ClauseWord → List (List ℕ) → Clause → Clause
on_word End ws rest = Some ([], ws)
on_word (Literal l) ws rest = lit_in_front l rest
on_word Bad ws rest = None

-- literals up to a 0
abbrev pub clause_to_zero : List (List ℕ) → Clause
clause_to_zero [] = None
clause_to_zero (w ∷ ws) = on_word (clause_word w) ws (clause_to_zero ws)

-- an addition, where its parts are right
abbrev pub addition : ℕ → List ℕ → Option (List ℕ) → Option HintLine
addition id c None = None
addition id c (Some hints) = Some (adds_clause id c hints)

-- the hints come after the clause
abbrev pub on_clause : ℕ → Clause → Option HintLine
on_clause id None = None
on_clause id (Some p) = addition id p.0 (ids_to_end p.1)

-- a deletion, where its ids are right
abbrev pub deletion : ℕ → Option (List ℕ) → Option HintLine
deletion number None = None
deletion number (Some ids) = Some (deletes_clauses number ids)

-- the word after the first number says which it is; the number of an addition is not 0
abbrev pub line_after : ℕ → List (List ℕ) → Option HintLine
line_after n [] = None
line_after n (w ∷ ws) =
    if bytes_eq w (codes "d") then deletion n (ids_to_end ws)
    else if n == 0 then None
    else on_clause n (clause_to_zero (w ∷ ws))

-- the first number
abbrev pub on_number : Option ℕ → List (List ℕ) → Option HintLine
on_number None ws = None
on_number (Some n) ws = line_after n ws

-- a line of text: passed over, a line of hints, or malformed
pub data Said : Type 0 where
  Nothing : Said
  Line : HintLine → Said
  Malformed : Said

-- by whether the words make a line
abbrev pub said : Option HintLine → Said
said None = Malformed
said (Some x) = Line x

-- a comment begins with a c
abbrev pub is_comment : List ℕ → Bool
is_comment [] = false
is_comment (b ∷ bs) = b == letter_c

-- what words say
abbrev pub said_by_words : List (List ℕ) → Said
said_by_words [] = Nothing
said_by_words (w ∷ ws) = if is_comment w then Nothing else said (on_number (number_of_word w) ws)

-- what a line of text says
abbrev pub said_by : List ℕ → Said
said_by line = said_by_words (words_of line)
