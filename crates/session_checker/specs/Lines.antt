-- A whole session, line by line: where each line is accepted in turn, all answers are true.
--     Line      a clause or a lemma with its id, a deletion, an answer
--     Held, nothing      the clauses that were given, and the clause of each id;  none
--     cause_of h line, after h line      why a line is rejected;  what is held after an accepted one
--     all_accepted h lines      each line is accepted in turn
--     events_of lines      what the application asked and was answered
--     SessionsAreTrue      the law
use Rattle.std.specs.Prelude.{◌≡◌, ℕ, Bool, true, ◌&&◌, ◌==◌, if◌then◌else◌, List, [], ◌∷◌, ◌++◌, Option, Some, None, is_none}
use Rattle.sat_rules.specs.Clauses.{has}
use Rattle.refutation_rules.specs.Sessions.{AllTrue, Event, asked, given, satisfiable, unknown, unsatisfiable}
use Rattle.session_checker.specs.Refusals.{Refusal, core_cause, id_cause, lemma_cause, model_cause}

-- a clause of the application;  a lemma;  ids that are deleted;  a query that failed, one that was satisfied, one without an answer
pub data Line : Type 0 where
  gives : (id : ℕ) → (clause : List ℕ) → Line
  derives : (id : ℕ) → (lemma hints : List ℕ) → Line
  deletes : (ids : List ℕ) → Line
  fails : (assumed core hints : List ℕ) → Line
  satisfies : (assumed model : List ℕ) → Line
  gives_up : (assumed : List ℕ) → Line

-- the clauses that were given, in their order;  the clause of each id
pub record Held : Type 0 where
  pub given : List (List ℕ)
  pub named : ℕ → Option (List ℕ)

-- no clause
abbrev pub nothing : Held
nothing = record { given = []; named = λ k. None }

-- why a line is rejected
abbrev pub cause_of : Held → Line → Option Refusal
cause_of h (gives i c) = id_cause h.named i
cause_of h (derives i c ids) = lemma_cause h.named i c ids
cause_of h (deletes ids) = None
cause_of h (fails assumed core ids) = core_cause h.named assumed core ids
cause_of h (satisfies assumed m) = model_cause h.given assumed m
cause_of h (gives_up assumed) = None

-- what is held after an accepted line
abbrev pub after : Held → Line → Held
after h (gives i c) = record {
  given = h.given ++ c ∷ [];
  named = λ k. if k == i then Some c else h.named k;
}
after h (derives i c ids) = record h { named = λ k. if k == i then Some c else h.named k }
after h (deletes ids) = record h { named = λ k. if has k ids then None else h.named k }
after h (fails assumed core ids) = h
after h (satisfies assumed m) = h
after h (gives_up assumed) = h

-- each line is accepted in turn
abbrev pub all_accepted : Held → List Line → Bool
all_accepted h [] = true
all_accepted h (l ∷ ls) = is_none (cause_of h l) && all_accepted (after h l) ls

-- what the application asked and was answered: a model answers with all its values
abbrev pub events_of : List Line → List Event
events_of [] = []
events_of (gives i c ∷ ls) = given c ∷ events_of ls
events_of (derives i c ids ∷ ls) = events_of ls
events_of (deletes ids ∷ ls) = events_of ls
events_of (fails assumed core ids ∷ ls) = asked assumed (unsatisfiable core) ∷ events_of ls
events_of (satisfies assumed m ∷ ls) = asked assumed (satisfiable m) ∷ events_of ls
events_of (gives_up assumed ∷ ls) = asked assumed unknown ∷ events_of ls

-- where each line of a session is accepted in turn, each answer is true of the clauses given before it
abbrev pub SessionsAreTrue : Type 0
SessionsAreTrue = (ls : List Line) → all_accepted nothing ls ≡ true → AllTrue [] (events_of ls)
