-- What the text of an answer says, line after line: the literals that it lists, or its first fault.
--     outcome_of text      the literals in their order, or the first fault and its line
use Rattle.std.specs.Prelude.{ℕ, Bool, true, false, not, ◌&&◌, ◌||◌, List, [], ◌∷◌, ◌++◌, Option, Some, None, Result, Ok, Err, codes, ◌==◌, if◌then◌else◌}
use Rattle.std.specs.Str.{bytes_eq}
use Rattle.sat_rules.specs.Clauses.{has, negate}
use Rattle.sat_formula.specs.Bytes.{letter_c, minus_sign, is_blank}
use Rattle.sat_formula.specs.Lines.{lines_of, value_of, words_of}
use Rattle.sat_formula.specs.Outcome.{next_line}
use Rattle.answer_text.specs.declared.fault.AnswerKind.{AnswerKind}
use Rattle.answer_text.specs.declared.fault.AnswerKind.TheVariants.{Malformed, Unsatisfiable, Unknown, SecondStatus, AfterEnd, BothSigns, Unfinished, NoStatus}
use Rattle.answer_text.specs.Numbers.{lit_said}

-- these literals are listed, as codes; or a fault, and its line
pub data Outcome : Type 0 where
  Lists : List ℕ → Outcome
  Faulty : ℕ → AnswerKind → Outcome

-- what was read: the literals, and whether there was the 0 after them, a status, and a line that begins with `v`
pub record SoFar : Type 0 where
  pub lits : List ℕ
  pub listed : Bool
  pub told : Bool
  pub marked : Bool

-- ---- numbers

-- what digits say, after a `-` or not
abbrev pub number_of : Bool → Option ℕ → Result (Option ℕ) AnswerKind
number_of negative None = Err Malformed
number_of negative (Some v) = lit_said negative v

-- what a word says
abbrev pub word_said : List ℕ → Result (Option ℕ) AnswerKind
word_said [] = Err Malformed
word_said (b ∷ bs) = if b == minus_sign then number_of true (value_of bs) else number_of false (value_of (b ∷ bs))

-- a number: a literal is listed if its negation is not, and nothing comes after the 0; `next` continues from there
abbrev pub number_then : ℕ → SoFar → Result (Option ℕ) AnswerKind → (SoFar → Outcome) → Outcome
number_then line s (Err kind) next = Faulty line kind
number_then line s (Ok None) next = if s.listed then Faulty line AfterEnd else next (record s { listed = true })
number_then line s (Ok (Some l)) next =
    if s.listed then Faulty line AfterEnd
    else (if has (negate l) s.lits then Faulty line BothSigns else next (record s { lits = s.lits ++ l ∷ [] }))

-- the numbers of a line
unfoldable pub numbers_from : ℕ → SoFar → List (List ℕ) → (SoFar → Outcome) → Outcome
numbers_from line s [] next = next s
numbers_from line s (w ∷ ws) next = number_then line s (word_said w) (λ more. numbers_from line more ws next)

-- ---- statuses

-- the formula is satisfiable, with these words after it
abbrev pub satisfiable_then : ℕ → SoFar → List (List ℕ) → (SoFar → Outcome) → Outcome
satisfiable_then line s [] next = if s.told then Faulty line SecondStatus else next (record s { told = true })
satisfiable_then line s (w ∷ ws) next = Faulty line (if s.told then SecondStatus else Malformed)

-- the words after an `s`
abbrev pub status_then : ℕ → SoFar → List (List ℕ) → (SoFar → Outcome) → Outcome
status_then line s [] next = Faulty line Malformed
status_then line s (w ∷ ws) next =
    if bytes_eq w (codes "SATISFIABLE") then satisfiable_then line s ws next
    else (if bytes_eq w (codes "UNSATISFIABLE") then Faulty line Unsatisfiable
    else (if bytes_eq w (codes "UNKNOWN") then Faulty line Unknown else Faulty line Malformed))

-- the words of a first line that begins with an `S` or a `U`
abbrev pub first_then : ℕ → SoFar → List (List ℕ) → (SoFar → Outcome) → Outcome
first_then line s [] next = Faulty line Malformed
first_then line s (w ∷ ws) next =
    if bytes_eq w (codes "SAT") then satisfiable_then line s ws next
    else (if bytes_eq w (codes "UNSAT") then Faulty line Unsatisfiable else Faulty line Malformed)

-- ---- lines

-- after an `s` a blank comes
abbrev pub after_s : ℕ → SoFar → List ℕ → (SoFar → Outcome) → Outcome
after_s line s [] next = Faulty line Malformed
after_s line s (b ∷ bs) next = if is_blank b then status_then line s (words_of bs) next else Faulty line Malformed

-- after a `v` a blank comes, or the end of the line
abbrev pub after_v : ℕ → SoFar → List ℕ → (SoFar → Outcome) → Outcome
after_v line s [] next = next s
after_v line s (b ∷ bs) next = if is_blank b then numbers_from line s (words_of bs) next else Faulty line Malformed

-- a line is a comment, a status, or numbers, after a `v` or not
abbrev pub line_then : ℕ → SoFar → List ℕ → (SoFar → Outcome) → Outcome
line_then line s [] next = next s
line_then line s (b ∷ bs) next =
    if b == letter_c then next s
    else (if b == 115 then after_s line s bs next
    else (if b == 118 then after_v line (record s { marked = true }) bs next
    else (if (line == 1) && ((b == 83) || (b == 85)) then first_then line s (words_of (b ∷ bs)) next
    else numbers_from line s (words_of (b ∷ bs)) next)))

-- the end of the text, on this line: there was the 0, and a status where a line begins with `v`
abbrev pub finish : ℕ → SoFar → Outcome
finish line s =
    if not s.listed then Faulty line Unfinished
    else (if s.marked && not s.told then Faulty line NoStatus else Lists s.lits)

-- the lines after the one with the number `before`
unfoldable pub answer_from : ℕ → SoFar → List (List ℕ) → Outcome
answer_from before s [] = finish before s
answer_from before s (l ∷ ls) = line_then (next_line before) s l (λ more. answer_from (next_line before) more ls)

-- before the first line
abbrev pub nothing : SoFar
nothing = record { lits = []; listed = false; told = false; marked = false }

-- the whole text; its lines count from 1
abbrev pub outcome_of : List ℕ → Outcome
outcome_of text = answer_from 0 nothing (lines_of text)
