-- A session's rounds, one event at a time.
use Rattle.std.proofs.Common.{◌≡◌, ℕ, zero, suc, Bool, true, List, [], ◌∷◌, arith}
use Rattle.std.proofs.lemmas.Bool.{and_parts, false≢true}
use Rattle.sat_rules.specs.Clauses.{all_true, clause_true}
use Rattle.refutation_rules.specs.Rounds.{AnswersAreTrue, Round, joins, meets, rounds_of}
use Rattle.refutation_rules.specs.Sessions.{AllMet, AllTrue, Event, asked, given, satisfiable, unknown, unsatisfiable}
use Rattle.refutation_rules.proofs.NameLemmas.{sessions_fail}

meets_joined : (a : ℕ → Bool) (c : List ℕ) (d : ℕ) (rs : List Round) → clause_true a c ≡ true → meets a d rs ≡ true → meets a d (joins c rs) ≡ true
meets_joined a c d [] t m = absurd (false≢true m)
meets_joined a c zero (x ∷ xs) t m = grind arith
meets_joined a c (suc d) (x ∷ xs) t m = grind arith

-- what is left of a session, over the clauses given before
left : (clauses : List (List ℕ)) (es : List Event) →
    ((d : ℕ) (a : ℕ → Bool) → all_true a clauses ≡ true → meets a d (rounds_of es) ≡ true → ⊥) → AllMet clauses es → AllTrue clauses es
left clauses [] h m = tt
left clauses (given c ∷ es) h m = left (c ∷ clauses) es (λ d a t k. let q = and_parts (clause_true a c) (all_true a clauses) t in h d a q.1 (meets_joined a c d (rounds_of es) q.0 k)) m
left clauses (asked assumed (satisfiable values) ∷ es) h m = (m.0, left clauses es h m.1)
left clauses (asked assumed (unsatisfiable core) ∷ es) h m = (
  record { part = m.0; fails = λ a t k. h zero a t k },
  left clauses es (λ d a t k. h (suc d) a t k) m.1,
)
left clauses (asked assumed unknown ∷ es) h m = (tt, left clauses es h m.1)

pub answers_are_true : AnswersAreTrue
answers_are_true n es below refuted met = left [] es (λ d a t k. sessions_fail n (rounds_of es) below refuted d a k) met
