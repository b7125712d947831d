-- What an application asked and was answered, and what is said of it.
--     Asked      a query: the clauses that were given before it, what it assumed, its answer, and what was told of it
--     interaction_of ls      what the lines of a text ask and answer
--     IsShown q r      the report has the answer of the query, which is true where it is shown
use Rattle.std.specs.Prelude.{◌≡◌, ℕ, List, [], ◌∷◌, ◌++◌, Option, Some, None}
use Rattle.refutation_rules.specs.Sessions.{Fails, Satisfies}
use Rattle.session_text.specs.declared.line.LineKind.{LineKind}
use Rattle.session_text.specs.declared.line.LineKind.TheVariants.{Answer, Clause, Core, Deletion, Failed, Lemma, Model, Query, Several, Trail, Values, Weakening}
use Rattle.session_text.specs.declared.line.Status.{Status}
use Rattle.session_text.specs.declared.line.Status.TheVariants.{Satisfiable, Unknown, Unsatisfiable}
use Rattle.session_text.specs.Outcomes.{Line}
use Rattle.session_check.specs.declared.report.Reason.{Reason}
use Rattle.session_check.specs.declared.report.Report.{Report}
use Rattle.session_check.specs.declared.session.Times.{Times}
use Rattle.session_check.specs.declared.session.Times.TheVariants.{Again, Never, Once}

-- once more
abbrev pub once_more : Times → Times
once_more Never = Once
once_more Once = Again
once_more Again = Again

-- a query: the clauses that were given before it, what it assumed, its answer, and the values or cores that were told of it, how often and one list behind the other
pub record Asked : Type 0 where
  pub given : List (List ℕ)
  pub assumed : List ℕ
  pub status : Status
  pub told : List ℕ
  pub times : Times

-- the clauses that were given so far, what the query assumed that has no answer yet, and the answered queries in their order
pub record Interaction : Type 0 where
  pub given : List (List ℕ)
  pub unanswered : Option (List ℕ)
  pub queries : List Asked

-- this is the answer to the query that has none yet
abbrev pub answer_to : Option (List ℕ) → Interaction → Status → Interaction
answer_to None a status = a
answer_to (Some assumed) a status = record {
  given = a.given;
  unanswered = None;
  queries = a.queries
      ++ record { given = a.given; assumed = assumed; status = status; told = []; times = Never } ∷ [];
}

-- these values or this core are told of it
abbrev pub hear : Asked → List ℕ → Asked
hear q lits = record q { told = q.told ++ lits; times = once_more q.times }

-- of the last query
abbrev pub hear_last : List Asked → List ℕ → List Asked
hear_last [] lits = []
hear_last (q ∷ []) lits = hear q lits ∷ []
hear_last (q ∷ r ∷ qs) lits = q ∷ hear_last (r ∷ qs) lits

-- a line of this kind, with these literals
abbrev pub interact : Interaction → LineKind → List ℕ → Interaction
interact a Clause lits = record a { given = a.given ++ lits ∷ [] }
interact a Query lits = record a { unanswered = Some lits }
interact a Lemma lits = a
interact a Deletion lits = a
interact a Weakening lits = a
interact a (Answer status) lits = answer_to a.unanswered a status
interact a Model lits = a
interact a Core lits = a
interact a Trail lits = a
interact a (Several count) lits = a
interact a Values lits = record a { queries = hear_last a.queries lits }
interact a Failed lits = record a { queries = hear_last a.queries lits }

-- one line
abbrev pub with_line : Interaction → Line → Interaction
with_line a l = interact a l.kind l.content.lits

-- further lines
unfoldable pub with_lines : Interaction → List Line → Interaction
with_lines a [] = a
with_lines a (l ∷ ls) = with_lines (with_line a l) ls

-- what these lines ask and answer
abbrev pub interaction_of : List Line → Interaction
interaction_of ls = with_lines (record { given = []; unanswered = None; queries = [] }) ls

-- ---- reports

-- some core fails, that which was told if one was
abbrev pub FailsAsTold : Times → List (List ℕ) → List ℕ → List ℕ → Type 0
FailsAsTold Never given assumed told = (core : List ℕ) × Fails given assumed core
FailsAsTold Once given assumed told = Fails given assumed told
FailsAsTold Again given assumed told = ⊥

-- the answer is true where it is shown: some assignment satisfies all, with all values that were told, or none does
abbrev pub IsAnswer : Asked → Status → Option Reason → Type 0
IsAnswer q Satisfiable None = (values : List ℕ) × Satisfies q.given q.assumed (q.told ++ values)
IsAnswer q Unsatisfiable None = FailsAsTold q.times q.given q.assumed q.told
IsAnswer q Unknown None = Unit {0}
IsAnswer q status (Some reason) = Unit {0}

-- the report has the answer of the query, which is true where it is shown
abbrev pub IsShown : Asked → Report → Type 0
IsShown q r = (r.status ≡ q.status) × IsAnswer q r.status r.reason

-- each query has its report
abbrev pub AllShown : List Asked → List Report → Type 0
AllShown [] [] = Unit {0}
AllShown (q ∷ qs) (r ∷ rs) = IsShown q r × AllShown qs rs
AllShown [] (r ∷ rs) = ⊥
AllShown (q ∷ qs) [] = ⊥
