-- The grammar of a session's texts, a byte after the other. A line is a comment (`c`), the header, a status (`s` and a word), `U` and a
-- number, or a letter and lists of numbers, each up to a 0. A proof may have no header. Of a proof in binary, a line is a status, `U` and a
-- number, or a letter and lists alone, where a number has seven bits a byte, the low ones first, and ends with a byte below 128; the byte
-- after its first letter is no space.
--     start format      the start of a text
--     after s b      what a byte does
--     at_end s      what is wrong with a text that ends here
use Rattle.std.specs.Prelude.{ℕ, ◌+◌, ◌-◌, ◌*◌, ◌^◌, Bool, true, false, not, ◌&&◌, length, slice_index, Option, Some, None, nat_lt, ◌==◌, if◌then◌else◌}
use Rattle.sat_formula.specs.Bytes.{letter_c, minus_sign, digit_zero, is_blank, is_digit, is_lf}
use Rattle.sat_formula.specs.Digits.{ends_word}
use Rattle.sat_formula.specs.Outcome as dimacs
use Rattle.session_text.specs.declared.fault.TextKind.{TextKind}
use Rattle.session_text.specs.declared.fault.TextKind.TheVariants.{Malformed, NoHeader, NumberTooLarge, Unfinished}
use Rattle.session_text.specs.declared.format.Form.{Form}
use Rattle.session_text.specs.declared.format.Form.TheVariants.{Binary, Text, Untold}
use Rattle.session_text.specs.declared.format.Format.{Format}
use Rattle.session_text.specs.declared.format.Format.TheVariants.{Icnf, Lidrup}
use Rattle.session_text.specs.declared.said.Said.{Said}
use Rattle.session_text.specs.declared.said.Said.TheVariants.{Last, Next, Turns, Wrong}
use Rattle.session_text.specs.declared.line.LineKind.{LineKind}
use Rattle.session_text.specs.declared.line.LineKind.TheVariants.{Answer, Clause, Core, Deletion, Failed, Lemma, Model, Query, Trail, Values, Weakening}
use Rattle.session_text.specs.declared.line.Status.{Status}
use Rattle.session_text.specs.declared.line.Status.TheVariants.{Satisfiable, Unknown, Unsatisfiable}
use Rattle.session_text.specs.declared.spot.After.{After}
use Rattle.session_text.specs.declared.spot.After.TheVariants.{Ends, Gives, Goes, Stops}
use Rattle.session_text.specs.declared.spot.Due.{Due}
use Rattle.session_text.specs.declared.spot.Due.TheVariants as dues
use Rattle.session_text.specs.declared.spot.Place.{Place}
use Rattle.session_text.specs.declared.spot.Place.TheVariants.{AfterS, BeforeWord, Between, Comment, Digits, Done, Group, Header, Letter, LineStart, Sign, Word}
use Rattle.session_text.specs.declared.spot.Spot.{Spot}
use Rattle.session_text.specs.Fields.{group_said, header, needs_header, number_said}
use Rattle.session_text.specs.Numbers.{with_digit, with_group}
use Rattle.session_text.specs.Statuses.{is_spelled, turns, word_of}

-- an interaction is text; the first line of a proof tells
abbrev pub form_at_start : Format → Form
form_at_start Icnf = Text
form_at_start Lidrup = Untold

-- the start of a text
abbrev pub start : Format → Spot
start format = record {
  format = format;
  form = form_at_start format;
  line = 1;
  headed = false;
  place = LineStart;
}

-- another place of the same line
abbrev pub moved : Spot → Place → Spot
moved s p = record s { place = p }

-- lines are written so
abbrev pub told : Spot → Form → Spot
told s form = record s { form = form }

abbrev pub is_binary_in : Form → Bool
is_binary_in Untold = false
is_binary_in Text = false
is_binary_in Binary = true

abbrev pub is_binary : Spot → Bool
is_binary s = is_binary_in s.form

abbrev pub is_untold_in : Form → Bool
is_untold_in Untold = true
is_untold_in Text = false
is_untold_in Binary = false

abbrev pub is_untold : Spot → Bool
is_untold s = is_untold_in s.form

-- the start of the next line
abbrev pub next_line : Spot → Spot
next_line s = record s { line = dimacs.next_line s.line; place = LineStart }

-- behind the header, or in a text without one
abbrev pub in_lines : Spot → Spot
in_lines s = record s { headed = true }

-- the LF after a line of this kind, or after the header
abbrev pub ends : Spot → Option LineKind → After
ends s (Some kind) = Ends kind (next_line s)
ends s None = Goes (in_lines (next_line s))

-- after all that a line has: blanks, and an LF
abbrev pub done : Spot → Option LineKind → ℕ → After
done s kind b =
    if is_lf b then ends s kind
    else (if is_blank b then Goes (moved s (Done kind)) else Stops Malformed)

-- ---- statuses

-- after this many bytes of a word; in binary the last of them ends the line
abbrev pub word_goes : Spot → Status → ℕ → After
word_goes s status read = if is_binary s && (read == length (word_of status))
    then ends s (Some (Answer status)) else Goes (moved s (Word status read))

-- a byte in a word or after it
abbrev pub in_word : Spot → Status → ℕ → ℕ → After
in_word s status read b =
    if is_spelled status read b then word_goes s status (read + 1)
    else (if turns status read b then Goes (moved s (Word Unknown 3))
    else (if ends_word b && (read == length (word_of status)) then done s (Some (Answer status)) b
    else Stops Malformed))

-- a byte before the word
abbrev pub before_word : Spot → ℕ → After
before_word s b =
    if is_blank b then Goes s
    else (if b == 83 then Goes (moved s (Word Satisfiable 1))
    else (if b == 85 then Goes (moved s (Word Unsatisfiable 1)) else Stops Malformed))

-- the byte after the `s`
abbrev pub after_s : Spot → ℕ → After
after_s s b =
    if is_blank b then Goes (moved s BeforeWord)
    else (if is_binary s then before_word s b else Stops Malformed)

-- ---- numbers

-- it stands before a blank
abbrev pub number_read : Spot → Said → After
number_read s (Next item due) = Gives item (moved s (Between due))
number_read s (Turns due) = Goes (moved s (Between due))
number_read s (Last kind) = Goes (moved s (Done (Some kind)))
number_read s (Wrong wrong) = Stops wrong

-- it stands before an LF
abbrev pub last_read : Spot → Said → After
last_read s (Next item due) = Stops Malformed
last_read s (Turns due) = Stops Malformed
last_read s (Last kind) = ends s (Some kind)
last_read s (Wrong wrong) = Stops wrong

-- a byte in digits or after them
abbrev pub in_digits : Spot → Due → Bool → ℕ → ℕ → After
in_digits s due negative v b =
    if is_digit b then Goes (moved s (Digits due negative (with_digit v b)))
    else (if is_blank b then number_read s (number_said due negative v)
    else (if is_lf b then last_read s (number_said due negative v) else Stops Malformed))

-- a first digit, after a `-` or not
abbrev pub first_digit : Spot → Due → Bool → ℕ → After
first_digit s due negative b =
    if is_digit b then Goes (moved s (Digits due negative (b - digit_zero))) else Stops Malformed

-- a byte between numbers
abbrev pub between : Spot → Due → ℕ → After
between s due b =
    if is_blank b then Goes s
    else (if b == minus_sign then Goes (moved s (Sign due)) else first_digit s due false b)

-- ---- binary numbers

-- after it
abbrev pub group_read : Spot → Said → After
group_read s (Next item due) = Gives item (moved s (Group due 0 1))
group_read s (Turns due) = Goes (moved s (Group due 0 1))
group_read s (Last kind) = ends s (Some kind)
group_read s (Wrong wrong) = Stops wrong

-- a byte of it of this weight, after groups of this value; no number has more than nine bytes
abbrev pub in_group : Spot → Due → ℕ → ℕ → ℕ → After
in_group s due v weight b =
    if nat_lt b 128 then group_read s (group_said due (with_group v weight b))
    else (if nat_lt weight (2 ^ 56)
    then Goes (moved s (Group due (with_group v weight b) (weight * 128))) else Stops NumberTooLarge)

-- ---- lines

-- what is due after the letter of a line of an interaction
abbrev pub due_in_icnf : ℕ → Option Due
due_in_icnf b =
    if b == 105 then Some (dues.Lit Clause)
    else (if b == 113 then Some (dues.Lit Query)
    else (if b == 118 then Some (dues.Lit Values)
    else (if b == 109 then Some (dues.Lit Values)
    else (if b == 102 then Some (dues.Lit Failed)
    else (if b == 117 then Some (dues.Lit Failed) else None)))))

-- of a proof
abbrev pub due_in_lidrup : ℕ → Option Due
due_in_lidrup b =
    if b == 105 then Some (dues.Id Clause)
    else (if b == 108 then Some (dues.Id Lemma)
    else (if b == 100 then Some (dues.Hint Deletion)
    else (if b == 119 then Some (dues.Hint Weakening)
    else (if b == 114 then Some (dues.Hint Weakening)
    else (if b == 113 then Some (dues.Lit Query)
    else (if b == 109 then Some (dues.Lit Model)
    else (if b == 117 then Some (dues.Lit Core)
    else (if b == 85 then Some dues.Count
    else (if b == 101 then Some (dues.Lit Trail) else None)))))))))

-- of a text
abbrev pub letter_due : Format → ℕ → Option Due
letter_due Icnf b = due_in_icnf b
letter_due Lidrup b = due_in_lidrup b

-- the byte after the letter
abbrev pub after_letter : Spot → Due → ℕ → After
after_letter s due b =
    if is_untold s && not (b == 32) then in_group (told s Binary) due 0 1 b
    else (if is_blank b then Goes (told (moved s (Between due)) Text) else Stops Malformed)

-- the place after the letter
abbrev pub letter_place : Spot → Due → Place
letter_place s due = if is_binary s then Group due 0 1 else Letter due

-- a byte of the header, of which this many were read, or after it
abbrev pub in_header : Spot → ℕ → ℕ → After
in_header s read b =
    if nat_lt read (length (header s.format)) && (slice_index (header s.format) read == b)
    then Goes (moved s (Header (read + 1)))
    else (if (read == length (header s.format)) && ends_word b then done s None b
    else Stops NoHeader)

-- a byte of a comment
abbrev pub in_comment : Spot → ℕ → After
in_comment s b = if is_lf b then Goes (next_line s) else Goes s

-- the letter of a line
abbrev pub begins : Spot → Option Due → After
begins s (Some due) = Goes (moved s (letter_place s due))
begins s None = Stops Malformed

-- the letter of a line, or the `s` of a status
abbrev pub letter_of : Spot → ℕ → After
letter_of s b = if b == 115 then Goes (moved s AfterS) else begins s (letter_due s.format b)

-- the first byte of the header, or of a line
abbrev pub start_of : Spot → ℕ → After
start_of s b =
    if not s.headed && needs_header s.format b then in_header s 0 b else letter_of (in_lines s) b

-- the same in binary, where an LF may stand behind a status
abbrev pub binary_start : Spot → ℕ → After
binary_start s b = if is_lf b then Goes s else start_of s b

-- a byte before the first one that is no blank, or that one
abbrev pub line_start : Spot → ℕ → After
line_start s b =
    if is_binary s then binary_start s b
    else (if is_lf b then Goes (next_line s)
    else (if is_blank b then Goes s
    else (if b == letter_c then Goes (moved s Comment) else start_of s b)))

-- one byte, at each place
abbrev pub after_at : Place → Spot → ℕ → After
after_at LineStart s b = line_start s b
after_at Comment s b = in_comment s b
after_at (Header read) s b = in_header s read b
after_at (Letter due) s b = after_letter s due b
after_at (Between due) s b = between s due b
after_at (Sign due) s b = first_digit s due true b
after_at (Digits due negative v) s b = in_digits s due negative v b
after_at (Group due v weight) s b = in_group s due v weight b
after_at AfterS s b = after_s s b
after_at BeforeWord s b = before_word s b
after_at (Word status read) s b = in_word s status read b
after_at (Done kind) s b = done s kind b

-- one byte
unfoldable pub after : Spot → ℕ → After
after s b = after_at s.place s b

-- what is wrong with a line that ends so, but without an LF
abbrev pub unended : After → TextKind
unended (Goes s) = Unfinished
unended (Gives item s) = Unfinished
unended (Ends kind s) = Unfinished
unended (Stops kind) = kind

-- what is wrong with a text that ends within a line
abbrev pub within : Spot → TextKind
within s = if is_binary s then Unfinished else unended (after s 10)

-- what is wrong with a text that ends where no line is open
abbrev pub between_lines : Spot → Option TextKind
between_lines s = if s.headed then None else Some NoHeader

-- what is wrong with a text that ends at this place
abbrev pub at_end_in : Place → Spot → Option TextKind
at_end_in LineStart s = between_lines s
at_end_in Comment s = between_lines s
at_end_in (Header read) s = Some (within s)
at_end_in (Letter due) s = Some (within s)
at_end_in (Between due) s = Some (within s)
at_end_in (Sign due) s = Some (within s)
at_end_in (Digits due negative v) s = Some (within s)
at_end_in (Group due v weight) s = Some (within s)
at_end_in AfterS s = Some (within s)
at_end_in BeforeWord s = Some (within s)
at_end_in (Word status read) s = Some (within s)
at_end_in (Done kind) s = Some (within s)

-- the same at a spot
abbrev pub at_end : Spot → Option TextKind
at_end s = at_end_in s.place s
