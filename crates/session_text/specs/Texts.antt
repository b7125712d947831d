-- What a text of a session says, line after line. A line is a comment (`c`), the header, a status (`s` and a word), `U` and a number, or a letter and
-- lists of numbers, each up to a 0. A proof may have no header, and is in binary from its first letter on if no space follows it.
--     outcome_of format text      the lines in their order, up to the end or the first fault
use Rattle.std.specs.Prelude.{ℕ, Bool, true, false, not, ◌&&◌, List, [], ◌∷◌, Option, Some, None, codes, ◌==◌, if◌then◌else◌}
use Rattle.std.specs.List.{join_with_byte}
use Rattle.std.specs.Str.{bytes_eq}
use Rattle.sat_formula.specs.Bytes.{letter_c, minus_sign, is_blank}
use Rattle.sat_formula.specs.Lines.{lines_of, value_of, words_of}
use Rattle.sat_formula.specs.Outcome.{next_line}
use Rattle.session_text.specs.declared.fault.TextKind.{TextKind}
use Rattle.session_text.specs.declared.fault.TextKind.TheVariants.{Malformed, NoHeader, Unfinished}
use Rattle.session_text.specs.declared.format.Format.{Format}
use Rattle.session_text.specs.declared.format.Format.TheVariants.{Icnf, Lidrup}
use Rattle.session_text.specs.declared.line.LineKind.TheVariants.{Answer}
use Rattle.session_text.specs.declared.line.Status.{Status}
use Rattle.session_text.specs.declared.line.Status.TheVariants.{Satisfiable, Unknown, Unsatisfiable}
use Rattle.session_text.specs.declared.said.Said.{Said}
use Rattle.session_text.specs.declared.said.Said.TheVariants as says
use Rattle.session_text.specs.declared.spot.Due.{Due}
use Rattle.session_text.specs.Binary.{Number, binary_from}
use Rattle.session_text.specs.Content.{Content, no_content, with_item}
use Rattle.session_text.specs.Fields.{due_after, header, needs_header, number_said}
use Rattle.session_text.specs.Outcomes.{Ended, Ending, Faulty, Line, Outcome, with_line}

-- what a line says: nothing; it is the header; it holds this, after which lines are told to be text or not; it begins lines in binary, with these bytes behind a letter; or
-- a fault
pub data LineSaid : Type 0 where
  Nothing : LineSaid
  Header : LineSaid
  Holds : (told : Bool) → Line → LineSaid
  Bytes : Due → List ℕ → LineSaid
  Wrong : TextKind → LineSaid

-- no word comes after it
abbrev pub only : List (List ℕ) → LineSaid → LineSaid
only [] said = said
only (w ∷ ws) said = Wrong Malformed

-- ---- numbers

-- what digits say, after a `-` or not
abbrev pub number_of : Due → Bool → Option ℕ → Said
number_of due negative None = says.Wrong Malformed
number_of due negative (Some v) = number_said due negative v

-- what a word says
abbrev pub word_said : Due → List ℕ → Said
word_said due [] = says.Wrong Malformed
word_said due (b ∷ bs) = if b == minus_sign then number_of due true (value_of bs)
    else number_of due false (value_of (b ∷ bs))

-- a number that says this, behind what stands in the line so far; `next` continues from there
abbrev pub number_then : Content → Said → List (List ℕ) → (Due → Content → LineSaid) → LineSaid
number_then c (says.Next item due) ws next = next due (with_item c item)
number_then c (says.Turns due) ws next = next due c
number_then c (says.Last kind) ws next = only ws (Holds true (record { kind = kind; content = c }))
number_then c (says.Wrong kind) ws next = Wrong kind

-- the numbers of a line
unfoldable pub numbers_from : Due → Content → List (List ℕ) → LineSaid
numbers_from due c [] = Wrong Malformed
numbers_from due c (w ∷ ws) =
    number_then c (word_said due w) ws (λ more still. numbers_from more still ws)

-- ---- lines

-- the line of this answer
abbrev pub answered : Bool → Status → LineSaid
answered told status = Holds told (record { kind = Answer status; content = no_content })

-- the words after an `s`
abbrev pub status_said : Bool → List (List ℕ) → LineSaid
status_said told [] = Wrong Malformed
status_said told (w ∷ ws) =
    if bytes_eq w (codes "SATISFIABLE") then only ws (answered told Satisfiable)
    else (if bytes_eq w (codes "UNSATISFIABLE") then only ws (answered told Unsatisfiable)
    else (if bytes_eq w (codes "UNKNOWN") then only ws (answered told Unknown) else Wrong Malformed))

-- after an `s` a blank comes
abbrev pub after_s : Bool → List ℕ → LineSaid
after_s told [] = Wrong Malformed
after_s told (b ∷ bs) = if is_blank b then status_said told (words_of bs) else Wrong Malformed

-- after a letter a blank comes, or lines are in binary from there on
abbrev pub after_letter : Bool → Due → List ℕ → LineSaid
after_letter told due [] = if told then Wrong Malformed else Bytes due []
after_letter told due (b ∷ bs) =
    if not told && not (b == 32) then Bytes due (b ∷ bs)
    else (if is_blank b then numbers_from due no_content (words_of bs) else Wrong Malformed)

-- the letter of a line
abbrev pub letter_said : Bool → Option Due → List ℕ → LineSaid
letter_said told None bs = Wrong Malformed
letter_said told (Some due) bs = after_letter told due bs

-- only blanks come after the header
abbrev pub after_header : List ℕ → LineSaid
after_header [] = Header
after_header (b ∷ bs) = if is_blank b then only (words_of bs) Header else Wrong NoHeader

-- these bytes of the header come
abbrev pub header_said : List ℕ → List ℕ → LineSaid
header_said [] bs = after_header bs
header_said (h ∷ hs) [] = Wrong NoHeader
header_said (h ∷ hs) (b ∷ bs) = if h == b then header_said hs bs else Wrong NoHeader

-- a line, by its first byte that is no blank; `headed`: the header was read, or a line; `told`: lines are text
abbrev pub line_said : Format → Bool → Bool → List ℕ → LineSaid
line_said format headed told [] = Nothing
line_said format headed told (b ∷ bs) =
    if is_blank b then line_said format headed told bs
    else (if b == letter_c then Nothing
    else (if not headed && needs_header format b then header_said (header format) (b ∷ bs)
    else (if b == 115 then after_s told bs else letter_said told (due_after format b) bs)))

-- ---- texts

-- a line ends with an LF, so that another one is behind it
abbrev pub before_others : ℕ → List (List ℕ) → Outcome → Outcome
before_others line [] o = ([], Faulty line Unfinished)
before_others line (l ∷ ls) o = o

-- a line that says this, and the lines behind it; `next` continues with these
abbrev pub line_then : Format → ℕ → Bool → Bool → LineSaid → List (List ℕ) → (Bool → Bool → Outcome) → Outcome
line_then format line headed told Nothing ls next = next headed told
line_then format line headed told Header ls next = before_others line ls (next true told)
line_then format line headed told (Holds still l) ls next =
    before_others line ls (with_line l (next true still))
line_then format line headed told (Bytes due bs) ls next =
    binary_from format line (Number due no_content 0 1) (join_with_byte 10 (bs ∷ ls))
line_then format line headed told (Wrong kind) ls next = ([], Faulty line kind)

-- the end of the text, on this line
abbrev pub ending : ℕ → Bool → Ending
ending line headed = if headed then Ended else Faulty line NoHeader

-- the lines after the one with the number `before`
unfoldable pub lines_from : Format → Bool → Bool → ℕ → List (List ℕ) → Outcome
lines_from format headed told before [] = ([], ending before headed)
lines_from format headed told before (l ∷ ls) =
    line_then format (next_line before) headed told (line_said format headed told l) ls
    (λ now still. lines_from format now still (next_line before) ls)

-- lines are text from the start on
abbrev pub is_text : Format → Bool
is_text Icnf = true
is_text Lidrup = false

-- the whole text; its lines count from 1
abbrev pub outcome_of : Format → List ℕ → Outcome
outcome_of format text = lines_from format false (is_text format) 0 (lines_of text)
