-- The lines of a proof in binary, a byte after the other. A line is a letter and lists of numbers, each up to a 0, `U` and a number, or `s` and a
-- status, perhaps behind blanks. A number has seven bits a byte, the low ones first, and ends with a byte below 128; it has at most nine bytes.
--     Part      what the next byte is part of
--     binary_from format line p bytes      what the bytes say from there on, on this line
use Rattle.std.specs.Prelude.{ℕ, ◌+◌, ◌*◌, ◌^◌, List, [], ◌∷◌, length, Option, Some, None, nat_lt, ◌==◌, if◌then◌else◌}
use Rattle.sat_formula.specs.Bytes.{is_blank, is_lf}
use Rattle.sat_formula.specs.Outcome.{next_line}
use Rattle.session_text.specs.declared.fault.TextKind.{TextKind}
use Rattle.session_text.specs.declared.fault.TextKind.TheVariants.{Malformed, NumberTooLarge, Unfinished}
use Rattle.session_text.specs.declared.format.Format.{Format}
use Rattle.session_text.specs.declared.line.LineKind.TheVariants.{Answer}
use Rattle.session_text.specs.declared.line.Status.{Status}
use Rattle.session_text.specs.declared.line.Status.TheVariants.{Satisfiable, Unknown, Unsatisfiable}
use Rattle.session_text.specs.declared.said.Said.{Said}
use Rattle.session_text.specs.declared.said.Said.TheVariants.{Last, Next, Turns, Wrong}
use Rattle.session_text.specs.declared.spot.Due.{Due}
use Rattle.session_text.specs.Content.{Content, no_content, with_item}
use Rattle.session_text.specs.Fields.{due_after, group_said}
use Rattle.session_text.specs.Numbers.{with_group}
use Rattle.session_text.specs.Outcomes.{Ended, Ending, Faulty, Line, Outcome, with_line}
use Rattle.session_text.specs.Statuses.{is_spelled, turns, word_of}

-- what the next byte is part of: the letter of a line, or LFs before it; the blanks before a status; a status, of which this many bytes were read; or a number, of
-- which there are groups of this value, with one of this weight next, behind what stands in the line so far
pub data Part : Type 0 where
  Letter : Part
  BeforeWord : Part
  Word : Status → (read : ℕ) → Part
  Number : Due → Content → (value weight : ℕ) → Part

-- after a byte: what the next one is part of, a line, or a fault
pub data Did : Type 0 where
  On : Part → Did
  Holds : Line → Did
  Off : TextKind → Did

-- after the letter of a line
abbrev pub begun : Option Due → Did
begun None = Off Malformed
begun (Some due) = On (Number due no_content 0 1)

-- after this many bytes of a status
abbrev pub word_on : Status → ℕ → Did
word_on status read = if read == length (word_of status)
    then Holds (record { kind = Answer status; content = no_content }) else On (Word status read)

-- after a number that says this
abbrev pub number_on : Content → Said → Did
number_on c (Next item due) = On (Number due (with_item c item) 0 1)
number_on c (Turns due) = On (Number due c 0 1)
number_on c (Last kind) = Holds (record { kind = kind; content = c })
number_on c (Wrong kind) = Off kind

-- one byte
abbrev pub part_after : Format → Part → ℕ → Did
part_after format Letter b =
    if is_lf b then On Letter else (if b == 115 then On BeforeWord else begun (due_after format b))
part_after format BeforeWord b =
    if is_blank b then On BeforeWord
    else (if b == 83 then On (Word Satisfiable 1)
    else (if b == 85 then On (Word Unsatisfiable 1) else Off Malformed))
part_after format (Word status read) b =
    if is_spelled status read b then word_on status (read + 1)
    else (if turns status read b then On (Word Unknown 3) else Off Malformed)
part_after format (Number due c v weight) b =
    if nat_lt b 128 then number_on c (group_said due (with_group v weight b))
    else (if nat_lt weight (2 ^ 56) then On (Number due c (with_group v weight b) (weight * 128))
    else Off NumberTooLarge)

-- the end of the text
abbrev pub cut : ℕ → Part → Ending
cut line Letter = Ended
cut line BeforeWord = Faulty line Unfinished
cut line (Word status read) = Faulty line Unfinished
cut line (Number due c v weight) = Faulty line Unfinished

-- from there on
unfoldable pub binary_from : Format → ℕ → Part → List ℕ → Outcome
binary_from format line p [] = ([], cut line p)
binary_from format line p (b ∷ bs) = elim (part_after format p b) [
  | On q ↦ binary_from format line q bs
  | Holds l ↦ with_line l (binary_from format (next_line line) Letter bs)
  | Off kind ↦ ([], Faulty line kind)
]
