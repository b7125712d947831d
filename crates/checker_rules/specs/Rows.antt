-- Worked rows: calls from a state, and what each of them answers.
--     pos n, neg n      literals by their DIMACS numbers
--     Answer      accepted, or rejected for a cause at a step number, with the steps emitted
--     answers s calls, transcribed s calls      what a list of calls answers; what a transcript takes of it
--     shown_names s call      the names shown with what a call emits
--     call ⇒ answer, Plays s row      a line of a row; the row holds
use Rattle.std.specs.Prelude.{◌≡◌, ℕ, List, [], ◌∷◌, ◌++◌, map, Option, Some, None}
use Rattle.checker_rules.specs.Calls.{Call, answer_of}
use Rattle.checker_rules.specs.CheckedSteps.{CheckedStep}
use Rattle.checker_rules.specs.Outcome.{Cause}
use Rattle.checker_rules.specs.State.{Known, State, Stored}
use Rattle.checker_rules.specs.Traced.{traced_by}
use Rattle.checker_rules.specs.Transcript.{TranscriptStep, images}

-- what a call answers, with the steps that it emits; a rejection bears the number of steps attempted
pub data Answer : Type 0 where
  accepts : List CheckedStep → Answer
  refuses : Cause → ℕ → List CheckedStep → Answer

-- accepted without a step
abbrev pub quiet : Answer
quiet = accepts []

-- accepted with one step
abbrev pub emits : CheckedStep → Answer
emits e = accepts (e ∷ [])

-- rejected without a step
abbrev pub fails : Cause → ℕ → Answer
fails cause n = refuses cause n []

-- by whether the call is rejected
abbrev pub answer_by : Option Cause → State → List CheckedStep → Answer
answer_by None after es = accepts es
answer_by (Some cause) after es = refuses cause after.steps es

-- the answers of a list of calls, in turn
abbrev pub answers : State → List Call → List Answer
answers s [] = []
answers s (call ∷ calls) = answer_by (answer_of s call).refused (answer_of s call).after
    (map (λ e. e.step) (traced_by s call)) ∷ answers (answer_of s call).after calls

-- what a transcript takes of a list of calls
abbrev pub transcribed : State → List Call → List TranscriptStep
transcribed s [] = []
transcribed s (call ∷ calls) = images (traced_by s call) ++
    transcribed (answer_of s call).after calls

-- the names shown with the steps that a call emits
abbrev pub shown_names : State → Call → List (List Known)
shown_names s call = map (λ e. e.names) (traced_by s call)

-- a line of a row
infix 70 ◌⇒◌
abbrev pub ◌⇒◌ : Call → Answer → Call × Answer
call ⇒ answer = (call, answer)

-- each call of the row answers so
abbrev pub Plays : State → List (Call × Answer) → Type 0
Plays s row = answers s (map (λ line. line.0) row) ≡ map (λ line. line.1) row

-- a row that starts at another id
abbrev pub set_next : ℕ → State → State
set_next n s = record s { next = n }

-- a row that starts at another step number
abbrev pub set_steps : ℕ → State → State
set_steps n s = record s { steps = n }

-- a row that starts with another count of irredundant copies
abbrev pub set_count : ℕ → State → State
set_count n s = record s { clauses = map (λ (e : Stored). record e { irredundant = n }) s.clauses }
