-- How a session goes on with a line, and what is said of a query.
--     Progress, progress_of s      where a session stands
--     Takes kind c p r p'      a line of this kind brings a session from p to p', with a report or none
--     IsJudged ls rs      these are the reports on the lines of a text, by the rules of `session_checker`
use Rattle.std.specs.Prelude.{◌≡◌, ℕ, ◌-◌, ◌<◌, ◌==◌, Bool, true, false, if◌then◌else◌, List, [], ◌∷◌, ◌++◌, Option, Some, None}
use Rattle.sat_rules.specs.Clauses.{has}
use Rattle.session_checker.specs.Causes.{refusal_of}
use Rattle.session_checker.specs.Held.{given_by, named_by}
use Rattle.session_checker.specs.Refusals.{Refusal, core_cause, lemma_cause, model_cause}
use Rattle.session_text.specs.declared.line.LineKind.{LineKind}
use Rattle.session_text.specs.declared.line.LineKind.TheVariants.{Answer, Clause, Core, Deletion, Failed, Lemma, Model, Query, Several, Trail, Values, Weakening}
use Rattle.session_text.specs.declared.line.Status.{Status}
use Rattle.session_text.specs.declared.line.Status.TheVariants.{Satisfiable, Unknown, Unsatisfiable}
use Rattle.session_text.specs.Content.{Content}
use Rattle.session_text.specs.Outcomes.{Line}
use Rattle.session_check.specs.Interactions.{IsShown, once_more}
use Rattle.session_check.specs.declared.report.Reason.{Reason}
use Rattle.session_check.specs.declared.report.Reason.TheVariants as reasons
use Rattle.session_check.specs.declared.report.Report.{Report}
use Rattle.session_check.specs.declared.session.Session.{Session}
use Rattle.session_check.specs.declared.session.Times.{Times}
use Rattle.session_check.specs.declared.session.Times.TheVariants.{Again, Never, Once}
use Rattle.session_check.specs.declared.session.Turn.{Turn}
use Rattle.session_check.specs.declared.session.Turn.TheVariants as turns

-- the last query has its report, or there is none;  it has no answer yet;  it has this one, of which so much was told, and no report
pub data Pending : Type 0 where
  settled : Pending
  asked : (assumed : List ℕ) → Pending
  answered : (assumed : List ℕ) → (status : Status) → (told : List ℕ) → (times : Times) → Pending

-- the clauses that were given, the clause of each id, whether some lemma did not follow, where the last query stands, and how many more cores of it are passed over
pub record Progress : Type 0 where
  pub given : List (List ℕ)
  pub named : ℕ → Option (List ℕ)
  pub broken : Bool
  pub pending : Pending
  pub more : ℕ

-- before the first line
abbrev pub IsFresh : Progress → Type 0
IsFresh p = (p.given ≡ []) × ((k : ℕ) → p.named k ≡ None) × (p.broken ≡ false)
    × (p.pending ≡ settled) × (p.more ≡ 0)

-- the last query has its report
abbrev pub ended : Progress → Progress
ended p = record p { pending = settled }

abbrev pub pending_in : Turn → (assumed told : List ℕ) → Times → Pending
pending_in turns.Idle assumed told times = settled
pending_in turns.Asked assumed told times = asked assumed
pending_in (turns.Answered status) assumed told times = answered assumed status told times

-- where the last query of a session stands
abbrev pub pending_of : Session → Pending
pending_of s = pending_in s.turn s.assumed.items s.told.items s.times

-- it has no answer yet
abbrev pub IsUnanswered : Pending → Type 0
IsUnanswered pending = (assumed : List ℕ) × (pending ≡ asked assumed)

-- a session
abbrev pub progress_of : Session → Progress
progress_of s = record {
  given = given_by s.checker;
  named = named_by s.checker;
  broken = s.broken;
  pending = pending_of s;
  more = s.more;
}

-- nothing is said, and all stays
abbrev pub Stays : Progress → Option Report → Progress → Type 0
Stays p r after = (r ≡ None) × (after ≡ p)

-- the last query is over: if it has no report yet, it was answered so, and has no conclusion
abbrev pub Closes : Pending → Option Report → Type 0
Closes pending None = pending ≡ settled
Closes pending (Some r) = (assumed : List ℕ) × (told : List ℕ) × (times : Times)
    × (pending ≡ answered assumed r.status told times) × (r.reason ≡ Some reasons.NoConclusion)

-- the id names these literals now, and all others what they did
abbrev pub Adds : (ℕ → Option (List ℕ)) → ℕ → List ℕ → (ℕ → Option (List ℕ)) → Type 0
Adds f id lits g = (k : ℕ) → g k ≡ (if k == id then Some lits else f k)

-- then a clause is given
abbrev pub Gives : ℕ → List ℕ → Progress → Option Report → Progress → Type 0
Gives id lits p r after = Closes p.pending r × (after.given ≡ p.given ++ lits ∷ [])
    × Adds p.named id lits after.named × (after.broken ≡ p.broken) × (after.pending ≡ settled)
    × (after.more ≡ 0)

-- or a query is asked
abbrev pub Asks : List ℕ → Progress → Option Report → Progress → Type 0
Asks lits p r after = Closes p.pending r × (after ≡ record p { pending = asked lits; more = 0 })

-- a lemma is added; or its hints do not show it, for this cause, and from then on no core is shown
abbrev pub DerivesBy : Option Refusal → ℕ → List ℕ → Progress → Progress → Type 0
DerivesBy None id lits p after = Adds p.named id lits after.named × (after.broken ≡ p.broken)
DerivesBy (Some cause) id lits p after =
    ((k : ℕ) → after.named k ≡ p.named k) × (after.broken ≡ true)

abbrev pub Derives : ℕ → List ℕ → List ℕ → Progress → Option Report → Progress → Type 0
Derives id lits ids p r after = (r ≡ None) × (after.given ≡ p.given) × (after.pending ≡ p.pending)
    × DerivesBy (lemma_cause p.named id lits ids) id lits p after × (after.more ≡ p.more)

-- clauses are deleted
abbrev pub Deletes : List ℕ → Progress → Option Report → Progress → Type 0
Deletes ids p r after = (r ≡ None) × (after.given ≡ p.given)
    × ((k : ℕ) → after.named k ≡ (if has k ids then None else p.named k))
    × (after.broken ≡ p.broken) × (after.pending ≡ p.pending) × (after.more ≡ p.more)

-- what is said of a query at once: that the solver gave up
abbrev pub answer_report : Status → Option Report
answer_report Satisfiable = None
answer_report Unsatisfiable = None
answer_report Unknown = Some (record { status = Unknown; reason = None })

-- where it stands after its answer
abbrev pub pending_after : List ℕ → Status → Pending
pending_after assumed Satisfiable = answered assumed Satisfiable [] Never
pending_after assumed Unsatisfiable = answered assumed Unsatisfiable [] Never
pending_after assumed Unknown = settled

-- the last query, which has no answer yet, gets this one
abbrev pub Answers : Status → Progress → Option Report → Progress → Type 0
Answers status p r after = (assumed : List ℕ) × (p.pending ≡ asked assumed)
    × (r ≡ answer_report status) × (after ≡ record p { pending = pending_after assumed status })

-- this is why an answer is not shown: the cause of the rules
abbrev pub IsReason : Option Refusal → Option Reason → Type 0
IsReason cause None = cause ≡ None
IsReason cause (Some reasons.NoConclusion) = ⊥
IsReason cause (Some reasons.Lemma) = ⊥
IsReason cause (Some reasons.Told) = ⊥
IsReason cause (Some reasons.SeveralTold) = ⊥
IsReason cause (Some (reasons.Refused c)) = cause ≡ Some (refusal_of c)

-- why what was told is not shown: the cause of the conclusion itself, or it has none
abbrev pub IsOwnReason : Option Refusal → Option Reason → Type 0
IsOwnReason None reason = reason ≡ Some reasons.Told
IsOwnReason (Some cause) reason = IsReason (Some cause) reason

-- by the cause with what was told, and that of the conclusion itself
abbrev pub IsToldReason : Option Refusal → Option Refusal → Option Reason → Type 0
IsToldReason None own reason = reason ≡ None
IsToldReason (Some cause) own reason = IsOwnReason own reason

-- of a core, where some lemma did not follow or none did, and a core was told so often
abbrev pub IsCoreReason : Bool → Times → Option Refusal → Option Refusal → Option Reason → Type 0
IsCoreReason true times as_told own reason = reason ≡ Some reasons.Lemma
IsCoreReason false Never as_told own reason = IsReason own reason
IsCoreReason false Once as_told own reason = IsToldReason as_told own reason
IsCoreReason false Again as_told own reason = reason ≡ Some reasons.SeveralTold

-- values or a core are told of the last query, which was answered so
abbrev pub Hears : Status → List ℕ → Progress → Option Report → Progress → Type 0
Hears status lits p r after = (assumed : List ℕ) × (told : List ℕ) × (times : Times)
    × (p.pending ≡ answered assumed status told times) × (r ≡ None)
    × (after ≡ record p { pending = answered assumed status (told ++ lits) (once_more times) })

-- this many cores follow of the last query
abbrev pub Announces : ℕ → Progress → Option Report → Progress → Type 0
Announces n p r after = (assumed : List ℕ) × (told : List ℕ) × (times : Times)
    × (p.pending ≡ answered assumed Unsatisfiable told times) × (r ≡ None)
    × (after ≡ record p { more = n - 1 })

-- the last query, which was answered so, gets its report, by a model
abbrev pub Models : List ℕ → Progress → Option Report → Progress → Type 0
Models lits p None after = ⊥
Models lits p (Some r) after = (assumed : List ℕ) × (told : List ℕ) × (times : Times)
    × (p.pending ≡ answered assumed Satisfiable told times) × (after ≡ ended p)
    × IsToldReason (model_cause p.given assumed (told ++ lits)) (model_cause p.given assumed lits)
    r.reason
    × IsShown (record {
      given = p.given;
      assumed = assumed;
      status = Satisfiable;
      told = told;
      times = times;
    }) r

-- or by a core; of several that were announced, those behind the first are passed over
abbrev pub Cores : List ℕ → List ℕ → Progress → Option Report → Progress → Type 0
Cores lits ids p None after = (p.pending ≡ settled) × (0 < p.more)
    × (after ≡ record p { more = p.more - 1 })
Cores lits ids p (Some r) after = (assumed : List ℕ) × (told : List ℕ) × (times : Times)
    × (p.pending ≡ answered assumed Unsatisfiable told times) × (after ≡ ended p)
    × IsCoreReason p.broken times (core_cause p.named assumed told ids)
    (core_cause p.named assumed lits ids) r.reason
    × IsShown (record {
      given = p.given;
      assumed = assumed;
      status = Unsatisfiable;
      told = told;
      times = times;
    }) r

-- a line of this kind
abbrev pub Takes : LineKind → Content → Progress → Option Report → Progress → Type 0
Takes Clause c p r after = Gives c.id c.lits p r after
Takes Query c p r after = Asks c.lits p r after
Takes Lemma c p r after = Derives c.id c.lits c.ids p r after
Takes Deletion c p r after = Deletes c.ids p r after
Takes Weakening c p r after = Stays p r after
Takes (Answer status) c p r after = Answers status p r after
Takes Model c p r after = Models c.lits p r after
Takes Core c p r after = Cores c.lits c.ids p r after
Takes Trail c p r after = Stays p r after
Takes (Several count) c p r after = Announces count p r after
Takes Values c p r after = Hears Satisfiable c.lits p r after
Takes Failed c p r after = Hears Unsatisfiable c.lits p r after

-- ---- a whole session

-- a report, or none
abbrev pub said : Option Report → List Report
said None = []
said (Some r) = r ∷ []

-- with a report more, or none
abbrev pub with_report : List Report → Option Report → List Report
with_report rs None = rs
with_report rs (Some r) = rs ++ r ∷ []

-- these lines, one after the other, with these reports
unfoldable pub Plays : Progress → List Line → List Report → Progress → Type 0
Plays p [] rs after = (rs ≡ []) × (after ≡ p)
Plays p (l ∷ ls) rs after = (r : Option Report) × (mid : Progress) × (more : List Report)
    × Takes l.kind l.content p r mid × (rs ≡ said r ++ more) × Plays mid ls more after

-- all lines from the first on, and the end
pub record IsJudged (lines : List Line) (rs : List Report) : Type 0 where
  pub first : Progress
  pub fresh : IsFresh first
  pub last : Progress
  pub reports : List Report
  pub end : Option Report
  pub plays : Plays first lines reports last
  pub closes : Closes last.pending end
  pub all : rs ≡ with_report reports end
