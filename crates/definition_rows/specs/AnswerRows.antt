-- Answers in a session, by DIMACS numbers: what makes one true, and what each part of that excludes.
use Rattle.std.specs.Prelude.{◌≡◌, ℕ, ◌+◌, false, List, [], ◌∷◌}
use Rattle.sat_rules.specs.Clauses.{neg, pos}
use Rattle.refutation_rules.specs.Copies.{renamed}
use Rattle.refutation_rules.specs.Rounds.{Round, all_below}
use Rattle.refutation_rules.specs.Sessions.{AllMet, AllTrue, IsTrue, asked, given, satisfiable}
use Rattle.refutation_rules.specs.Sessions.{unknown, unsatisfiable}

-- -1 -2
abbrev pub one_of_two : List (List ℕ)
one_of_two = (neg 1 ∷ neg 2 ∷ []) ∷ []

-- a round whose core is 2
abbrev pub two_fails : List Round
two_fails = record { clauses = []; core = pos 2 ∷ [] } ∷ []

-- one fact a row
pub record AnswerRows : Type 0 where
  pub satisfied : IsTrue one_of_two (pos 1 ∷ []) (satisfiable (neg 2 ∷ []))
  -- values that falsify the clauses, the assumptions, or one another
  pub clause_false : IsTrue one_of_two [] (satisfiable (pos 1 ∷ pos 2 ∷ [])) → ⊥
  pub assumed_false : IsTrue one_of_two (pos 1 ∷ []) (satisfiable (neg 1 ∷ [])) → ⊥
  pub values_apart : IsTrue [] [] (satisfiable (pos 1 ∷ neg 1 ∷ [])) → ⊥
  pub clause_and_assumed : IsTrue one_of_two (pos 1 ∷ pos 2 ∷ []) (satisfiable []) → ⊥
  pub failed : IsTrue one_of_two (pos 2 ∷ pos 1 ∷ []) (unsatisfiable (pos 1 ∷ pos 2 ∷ []))
  -- a core that was not assumed, one that can be true, and none where the clauses can be true
  pub not_assumed : IsTrue one_of_two (pos 1 ∷ []) (unsatisfiable (pos 1 ∷ pos 2 ∷ [])) → ⊥
  pub core_true : IsTrue one_of_two (pos 1 ∷ pos 2 ∷ []) (unsatisfiable (pos 1 ∷ [])) → ⊥
  pub no_core : IsTrue one_of_two (pos 1 ∷ pos 2 ∷ []) (unsatisfiable []) → ⊥
  -- clauses count from where they are given on, and each answer counts
  pub later_clause : AllTrue [] (asked [] (unsatisfiable []) ∷ given [] ∷ []) → ⊥
  pub earlier_clause : AllTrue [] (given (pos 1 ∷ [])
      ∷ asked (neg 1 ∷ []) (satisfiable []) ∷ []) → ⊥
  pub second_answer : AllTrue [] (asked [] unknown ∷ asked [] (unsatisfiable []) ∷ []) → ⊥
  -- a model is asked of an answer by itself, over the clauses before it, and a core that was assumed
  pub no_model : AllMet [] (given (pos 1 ∷ [])
      ∷ asked [] (satisfiable (neg 1 ∷ [])) ∷ []) → ⊥
  pub core_of_others : AllMet [] (asked (pos 2 ∷ []) (unsatisfiable (pos 1 ∷ [])) ∷ []) → ⊥
  -- the variable 2 is not below 1, nor is that of a clause
  pub core_beyond : all_below 1 two_fails ≡ false
  pub clause_beyond : all_below 1 (record { clauses = one_of_two; core = [] } ∷ []) ≡ false
  -- 1 and -1, renamed three further
  pub renamed_literal : renamed (λ x. x + 3) (pos 1) ≡ pos 4
  pub renamed_negation : renamed (λ x. x + 3) (neg 1) ≡ neg 4
