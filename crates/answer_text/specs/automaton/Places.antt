-- The grammar of an answer, a byte after the other. A line is a comment (`c`), a status (`s` and a word, or on the first line
-- `SAT` or `UNSAT`), or has numbers, after a `v` or not. A number is the literals' end (0) or a literal.
use Rattle.std.specs.Prelude.{ℕ, ◌+◌, ◌-◌, Bool, true, false, ◌&&◌, List, length, slice_index, codes, Option, Some, None, Result, Ok, Err, nat_lt, ◌==◌, if◌then◌else◌}
use Rattle.sat_formula.specs.Bytes.{letter_c, minus_sign, digit_zero, is_blank, is_digit, is_lf}
use Rattle.sat_formula.specs.Digits.{ends_word, value_after}
use Rattle.sat_formula.specs.Outcome as dimacs
use Rattle.answer_text.specs.declared.fault.AnswerKind.{AnswerKind}
use Rattle.answer_text.specs.declared.fault.AnswerKind.TheVariants as kinds
use Rattle.answer_text.specs.declared.spot.Status.{Status}
use Rattle.answer_text.specs.declared.spot.Status.TheVariants.{Satisfiable, Unsatisfiable, Unknown, Sat, Unsat}
use Rattle.answer_text.specs.declared.spot.Place.{Place}
use Rattle.answer_text.specs.declared.spot.Place.TheVariants.{LineStart, Comment, AfterS, BeforeWord, Word, AfterV, Between, Sign, Digits}
use Rattle.answer_text.specs.declared.spot.Spot.{Spot}
use Rattle.answer_text.specs.declared.spot.After.{After}
use Rattle.answer_text.specs.declared.spot.After.TheVariants.{Goes, Gives, Stops}
use Rattle.answer_text.specs.Numbers.{lit_said}

-- the start of a text
abbrev pub start : Spot
start = record { line = 1; place = LineStart; listed = false; told = false; marked = false }

-- another place of the same line
abbrev pub moved : Spot → Place → Spot
moved s p = record s { place = p }

-- the start of the next line
abbrev pub next_line : Spot → Spot
next_line s = record s { line = dimacs.next_line s.line; place = LineStart }

-- ---- statuses

-- the word of a status
abbrev pub word_of : Status → List ℕ
word_of Satisfiable = codes "SATISFIABLE"
word_of Unsatisfiable = codes "UNSATISFIABLE"
word_of Unknown = codes "UNKNOWN"
word_of Sat = codes "SAT"
word_of Unsat = codes "UNSAT"

-- the byte is the next one of the word, of which this many were read
abbrev pub is_spelled : Status → ℕ → ℕ → Bool
is_spelled status read b =
    nat_lt read (length (word_of status)) && (slice_index (word_of status) read == b)

-- `UN` was read, and the byte is a `K`: the word is `UNKNOWN`
abbrev pub turns : Status → ℕ → ℕ → Bool
turns Satisfiable read b = false
turns Unsatisfiable read b = read == 2 && (b == 75)
turns Unknown read b = false
turns Sat read b = false
turns Unsat read b = false

-- the formula is satisfiable, says a word that was read up to a blank or an LF
abbrev pub satisfiable_read : Spot → ℕ → After
satisfiable_read s b =
    if s.told then Stops kinds.SecondStatus
    else (if is_lf b then Goes (next_line (record s { told = true })) else Goes s)

-- a word was read, up to a blank or an LF
abbrev pub status_read : Spot → Status → ℕ → After
status_read s Satisfiable b = satisfiable_read s b
status_read s Sat b = satisfiable_read s b
status_read s Unsatisfiable b = Stops kinds.Unsatisfiable
status_read s Unsat b = Stops kinds.Unsatisfiable
status_read s Unknown b = Stops kinds.Unknown

-- a byte in a word or after it
abbrev pub in_word : Spot → Status → ℕ → ℕ → After
in_word s status read b =
    if is_spelled status read b then Goes (moved s (Word status (read + 1)))
    else (if turns status read b then Goes (moved s (Word Unknown 3))
    else (if ends_word b && (read == length (word_of status)) then status_read s status b
    else Stops kinds.Malformed))

-- a byte before the word
abbrev pub before_word : Spot → ℕ → After
before_word s b =
    if is_blank b then Goes (moved s BeforeWord)
    else (if b == 83 then Goes (moved s (Word Satisfiable 1))
    else (if b == 85 then Goes (moved s (Word Unsatisfiable 1)) else Stops kinds.Malformed))

-- ---- numbers

-- a number that says this was read, with a blank or an LF that leads on to this spot
abbrev pub number_read : Spot → Result (Option ℕ) AnswerKind → Spot → After
number_read s (Err kind) next = Stops kind
number_read s (Ok None) next =
    if s.listed then Stops kinds.AfterEnd else Goes (record next { listed = true })
number_read s (Ok (Some lit)) next = if s.listed then Stops kinds.AfterEnd else Gives lit next

-- where a blank or an LF after a word leads
abbrev pub passed : Spot → ℕ → Spot
passed s b = if is_lf b then next_line s else moved s Between

-- a byte in digits or after them
abbrev pub in_digits : Spot → Bool → ℕ → ℕ → After
in_digits s negative v b =
    if is_digit b then Goes (moved s (Digits negative (value_after v b)))
    else (if ends_word b then number_read s (lit_said negative v) (passed s b)
    else Stops kinds.Malformed)

-- a first digit, after a `-` or not
abbrev pub first_digit : Spot → Bool → ℕ → After
first_digit s negative b =
    if is_digit b then Goes (moved s (Digits negative (b - digit_zero))) else Stops kinds.Malformed

-- a byte between numbers
abbrev pub between : Spot → ℕ → After
between s b =
    if ends_word b then Goes (passed s b)
    else (if b == minus_sign then Goes (moved s Sign) else first_digit s false b)

-- the first byte of the first line may be of `SAT` or `UNSAT`; else it is of a line of numbers
abbrev pub text_start : Spot → ℕ → After
text_start s b =
    if (s.line == 1) && (b == 83) then Goes (moved s (Word Sat 1))
    else (if (s.line == 1) && (b == 85) then Goes (moved s (Word Unsat 1)) else between s b)

-- the first byte of a line: `c`, `s`, `v`, or another one
abbrev pub line_start : Spot → ℕ → After
line_start s b =
    if b == letter_c then Goes (moved s Comment)
    else (if b == 115 then Goes (moved s AfterS)
    else (if b == 118 then Goes (record s { place = AfterV; marked = true }) else text_start s b))

-- one byte, at each place
abbrev pub after_at : Place → Spot → ℕ → After
after_at LineStart s b = line_start s b
after_at Comment s b = if is_lf b then Goes (next_line s) else Goes s
after_at AfterS s b = if is_blank b then Goes (moved s BeforeWord) else Stops kinds.Malformed
after_at BeforeWord s b = before_word s b
after_at (Word status read) s b = in_word s status read b
after_at AfterV s b = if ends_word b then Goes (passed s b) else Stops kinds.Malformed
after_at Between s b = between s b
after_at Sign s b = first_digit s true b
after_at (Digits negative v) s b = in_digits s negative v b

-- one byte
unfoldable pub after : Spot → ℕ → After
after s b = after_at s.place s b
