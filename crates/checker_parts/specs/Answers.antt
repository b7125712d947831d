-- What a call answers and leaves, by the definitions.
--     AnswersStep r o s      the answer r and the state s after the call are those of the outcome o
--     AnswersText r o s      the same of the clauses of a DIMACS text
--     UnlessFailed r P, UnlessTextFailed r P      P, unless the call failed the checker
--     AnswersParts r o s      as AnswersStep, and nothing where the call gave up
--     EndsOutcome end o s, UnlessFailure end P, UnlessGivenUp end P      what these say of each end of a call
--     IsFold ts s, IsCovered ts s      the satisfying set of s is the fold over ts; the members make all that is stored true
--     SetsFold r ts t s, CoversFold r ts t s      the two after a call for one step t, where the steps ts came before
use Rattle.std.specs.Prelude.{◌≡◌, ℕ, Bool, true, List, [], ◌∷◌, ◌++◌, Some, None, Result, Ok, Err}
use Rattle.checker_rules.specs.Covers.{Covers}
use Rattle.checker_rules.specs.Headline.{holds}
use Rattle.checker_rules.specs.Outcome.{Cause, Outcome}
use Rattle.checker_rules.specs.State.{State, sat}
use Rattle.checker_rules.specs.Step.{Step}
use Rattle.checker_parts.specs.Endings.{Ending, accepted, refused, given_up, had_failed, ending, text_ending}
use Rattle.checker_parts.specs.declared.error.CheckerError.{CheckerError}
use Rattle.checker_parts.specs.declared.error.DimacsError.{DimacsError}

-- rejected with this cause, at the step number of the state after
abbrev pub IsRefusal : Cause → ℕ → Outcome → State → Type 0
IsRefusal cause number o s = (o.refused ≡ Some cause) × (s ≡ o.after) × (number ≡ s.steps)

-- accepted, or rejected with this cause, and the state after; a call that gives up fails the checker, and no other end is that of an outcome
abbrev pub EndsOutcome : Ending → Outcome → State → Type 0
EndsOutcome accepted o s = (o.refused ≡ None) × (s ≡ o.after)
EndsOutcome (refused cause number) o s = IsRefusal cause number o s
EndsOutcome (given_up loss) o s = s.failed ≡ true
EndsOutcome _ o s = ⊥

-- the answer and the state after are those of the outcome
abbrev pub AnswersStep : {A : Type 0} → Result A CheckerError → Outcome → State → Type 0
AnswersStep r o s = EndsOutcome (ending r) o s

-- of the clauses of a text: all were accepted where the text ends or has its fault, else the first rejection is answered
abbrev pub AnswersText : {A : Type 0} → Result A DimacsError → Outcome → State → Type 0
AnswersText r o s = EndsOutcome (text_ending r) o s

-- the fact, unless the checker has failed, now or before
abbrev pub UnlessFailure : Ending → Type 0 → Type 0
UnlessFailure (given_up loss) P = Unit {0}
UnlessFailure had_failed P = Unit {0}
UnlessFailure _ P = P

-- the fact, unless the call failed the checker
abbrev pub UnlessFailed : {A : Type 0} → Result A CheckerError → Type 0 → Type 0
UnlessFailed r P = UnlessFailure (ending r) P

-- the fact, unless a call over a text of clauses had to give up
abbrev pub UnlessTextFailed : {A : Type 0} → Result A DimacsError → Type 0 → Type 0
UnlessTextFailed r P = UnlessFailure (text_ending r) P

-- the satisfying set is the fold over the steps
abbrev pub IsFold : List Step → State → Type 0
IsFold ts s = (a : ℕ → Bool) → sat s a ≡ holds ts a

-- the members after the steps make all that is stored true, and there is none where `unsat` is recorded
abbrev pub IsCovered : List Step → State → Type 0
IsCovered ts s = Covers (holds ts) s

-- the steps before, and the step where the call accepted it
abbrev pub with_accepted : {A : Type 0} → Result A CheckerError → List Step → Step → List Step
with_accepted (Ok done) ts t = ts ++ t ∷ []
with_accepted (Err e) ts t = ts

-- after a call for one step the satisfying set is the fold over the steps before and the step where it was accepted
abbrev pub SetsFold : {A : Type 0} → Result A CheckerError → List Step → Step → State → Type 0
SetsFold r ts t s = UnlessFailed r (IsFold (with_accepted r ts t) s)

-- after a call for one step the unsatisfiable side is covered by the steps before and the step where it was accepted
abbrev pub CoversFold : {A : Type 0} → Result A CheckerError → List Step → Step → State → Type 0
CoversFold r ts t s = UnlessFailed r (IsCovered (with_accepted r ts t) s)

-- the fact, unless memory was refused or a processor answered a fault; it holds too where the checker had failed before
abbrev pub UnlessGivenUp : Ending → Type 0 → Type 0
UnlessGivenUp (given_up loss) P = Unit {0}
UnlessGivenUp _ P = P

-- of a function over the parts of a checker, whose caller records that it gave up
abbrev pub AnswersParts : {A : Type 0} → Result A CheckerError → Outcome → State → Type 0
AnswersParts r o s = UnlessGivenUp (ending r) (AnswersStep r o s)
