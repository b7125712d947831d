-- An answer, a byte after the other: the literals so far, or a fault.
--     outcome_read text      what the whole text says
use Rattle.std.specs.Prelude.{ℕ, not, ◌&&◌, List, [], ◌∷◌, ◌++◌, if◌then◌else◌}
use Rattle.sat_rules.specs.Clauses.{has, negate}
use Rattle.answer_text.specs.declared.fault.AnswerKind.{AnswerKind}
use Rattle.answer_text.specs.declared.fault.AnswerKind.TheVariants.{BothSigns, Unfinished, NoStatus}
use Rattle.answer_text.specs.declared.spot.Spot.{Spot}
use Rattle.answer_text.specs.declared.spot.After.{After}
use Rattle.answer_text.specs.declared.spot.After.TheVariants.{Goes, Gives, Stops}
use Rattle.answer_text.specs.automaton.Places.{after, start}
use Rattle.answer_text.specs.Answers.{Outcome, Lists, Faulty}

-- after a byte: the literals so far and the position of the reading, or a fault and its line
pub data Step : Type 0 where
  On : List ℕ → Spot → Step
  Off : ℕ → AnswerKind → Step

-- what a byte does on this line, after these literals: a literal is listed if its negation is not
abbrev pub taken : List ℕ → ℕ → After → Step
taken lits line (Goes s) = On lits s
taken lits line (Gives lit s) =
    if has (negate lit) lits then Off line BothSigns else On (lits ++ lit ∷ []) s
taken lits line (Stops kind) = Off line kind

-- one byte
abbrev pub step : List ℕ → Spot → ℕ → Step
step lits s b = taken lits s.line (after s b)

-- the end of a text on this line: the literals' 0 was read, and a status where there are `v` lines
abbrev pub finish : ℕ → List ℕ → Spot → Outcome
finish line lits s =
    if not s.listed then Faulty line Unfinished
    else (if s.marked && not s.told then Faulty line NoStatus else Lists lits)

-- the end of a text, which ends its last line as an LF does
abbrev pub at_end : ℕ → Step → Outcome
at_end line (On lits s) = finish line lits s
at_end line (Off at kind) = Faulty at kind

-- from a spot on, after these literals
unfoldable pub outcome_at : List ℕ → Spot → List ℕ → Outcome
outcome_at lits s [] = at_end s.line (step lits s 10)
outcome_at lits s (b ∷ bs) = elim (step lits s b) [
  | On more next ↦ outcome_at more next bs
  | Off line kind ↦ Faulty line kind
]

-- the whole text
abbrev pub outcome_read : List ℕ → Outcome
outcome_read text = outcome_at [] start text
