-- DIMACS text as lines: its clauses, and how it ends.
use Rattle.std.specs.Prelude.{ℕ, ◌+◌, ◌-◌, ◌*◌, Bool, true, false, not, ◌&&◌, List, [], ◌∷◌, ◌++◌, Option, Some, None, codes, filter, find, ◌==◌, if◌then◌else◌}
use Rattle.std.specs.List.{slice_split, list_all}
use Rattle.std.specs.Str.{bytes_eq}
use Rattle.sat_formula.specs.declared.fault.DimacsKind.TheVariants.{BadNumber, BadHeader, LateHeader}
use Rattle.sat_formula.specs.declared.word.Token.{Token}
use Rattle.sat_formula.specs.declared.word.Token.TheVariants as tokens
use Rattle.sat_formula.specs.Bytes.{letter_c, percent_sign, letter_p, minus_sign, digit_zero, is_blank, is_digit, is_lf}
use Rattle.sat_formula.specs.Tokens.{value_token}
use Rattle.sat_formula.specs.Outcome.{Outcome, Faulty, finish, next_line, with_clause}

-- ---- lines and words

-- the lines of a text, without their LF; a text that ends with an LF has an empty one after it
abbrev pub lines_of : List ℕ → List (List ℕ)
lines_of text = slice_split is_lf text

-- it is not empty
abbrev pub has_bytes : List ℕ → Bool
has_bytes [] = false
has_bytes (b ∷ bs) = true

-- the words of a line: what is between blanks
abbrev pub words_of : List ℕ → List (List ℕ)
words_of line = filter has_bytes (slice_split is_blank line)

-- ---- numbers

-- the value of digits after those of the value v, if they are digits
abbrev pub value_from : ℕ → List ℕ → Option ℕ
value_from v [] = Some v
value_from v (d ∷ ds) = if is_digit d then value_from (v * 10 + (d - digit_zero)) ds else None

-- the value of one or more digits
abbrev pub value_of : List ℕ → Option ℕ
value_of [] = None
value_of (d ∷ ds) = value_from 0 (d ∷ ds)

-- the token of digits with this value, or of no digits, with a `-` before them or not
abbrev pub judged : Bool → Option ℕ → Token
judged negative None = tokens.Wrong BadNumber
judged negative (Some v) = value_token negative v

-- the token of a word
abbrev pub token_of_word : List ℕ → Token
token_of_word [] = tokens.Wrong BadNumber
token_of_word (b ∷ bs) = if b == minus_sign then judged true (value_of bs)
    else judged false (value_of (b ∷ bs))

-- ---- headers

-- as many words as tests, and each passes its own
abbrev pub all_pass : List (List ℕ → Bool) → List (List ℕ) → Bool
all_pass [] [] = true
all_pass [] (w ∷ ws) = false
all_pass (t ∷ ts) [] = false
all_pass (t ∷ ts) (w ∷ ws) = t w && all_pass ts ws

-- one or more digits
abbrev pub is_digits : List ℕ → Bool
is_digits w = has_bytes w && list_all is_digit w

-- p, cnf and two runs of digits
abbrev pub is_header : List (List ℕ) → Bool
is_header words = all_pass ((λ w. bytes_eq w (codes "p")) ∷ (λ w. bytes_eq w (codes "cnf")) ∷
    is_digits ∷ is_digits ∷ []) words

-- ---- kinds of lines

-- what a line is
pub data LineKind : Type 0 where
  EmptyLine : LineKind
  CommentLine : LineKind
  EndMark : LineKind
  HeaderLine : LineKind
  TokenLine : LineKind

-- by its first byte that is no blank, if it has one
abbrev pub kind_by : Option ℕ → LineKind
kind_by None = EmptyLine
kind_by (Some b) = if b == letter_c then CommentLine
    else (if b == percent_sign then EndMark else (if b == letter_p then HeaderLine else TokenLine))

-- by its bytes
abbrev pub kind_of_line : List ℕ → LineKind
kind_of_line line = kind_by (find (λ b. not (is_blank b)) line)

-- ---- clauses

-- one token, after the literals of an unfinished clause; `next` continues with the literals after it
abbrev pub token_then : ℕ → List ℕ → Token → (List ℕ → Outcome) → Outcome
token_then line begun tokens.Zero next = with_clause begun (next [])
token_then line begun (tokens.Literal code) next = next (begun ++ code ∷ [])
token_then line begun (tokens.Wrong kind) next = ([], Faulty line kind)

-- the tokens of a line, after the literals of an unfinished clause
unfoldable pub tokens_from : ℕ → List ℕ → List (List ℕ) → (List ℕ → Outcome) → Outcome
tokens_from line begun [] next = next begun
tokens_from line begun (w ∷ ws) next =
    token_then line begun (token_of_word w) (λ still. tokens_from line still ws next)

-- a header's line; the first `Bool` says whether a number or a header came before it
abbrev pub header_then : ℕ → Bool → Bool → Outcome → Outcome
header_then line true right next = ([], Faulty line LateHeader)
header_then line false true next = next
header_then line false false next = ([], Faulty line BadHeader)

-- a line of this kind; `seen`: whether a number or a header came before; `next` continues from there
abbrev pub line_then : LineKind → ℕ → Bool → List ℕ → List ℕ → (Bool → List ℕ → Outcome) → Outcome
line_then EmptyLine line seen begun bytes next = next seen begun
line_then CommentLine line seen begun bytes next = next seen begun
line_then EndMark line seen begun bytes next = ([], finish line begun)
line_then HeaderLine line seen begun bytes next =
    header_then line seen (is_header (words_of bytes)) (next true begun)
line_then TokenLine line seen begun bytes next = tokens_from line begun (words_of bytes) (next true)

-- the lines after the one with the number `before`; `begun`: the literals of an unfinished clause
unfoldable pub lines_from : ℕ → Bool → List ℕ → List (List ℕ) → Outcome
lines_from before seen begun [] = ([], finish before begun)
lines_from before seen begun (l ∷ ls) =
    line_then (kind_of_line l) (next_line before) seen begun l
    (λ now still. lines_from (next_line before) now still ls)

-- the whole text; its lines count from 1
abbrev pub outcome_of : List ℕ → Outcome
outcome_of text = lines_from 0 false [] (lines_of text)
