-- Worked rows of the rules, by DIMACS numbers.
use Rattle.std.specs.Prelude.{◌≡◌, ℕ, true, false, List, [], ◌∷◌, Option, Some, None}
use Rattle.sat_rules.specs.Clauses.{neg, pos}
use Rattle.lrat_rules.specs.Causes.{id_taken, no_conflict, not_unit, unknown_id}
use Rattle.lrat_rules.specs.Stores.{find, formula_store}
use Rattle.refutation_rules.specs.Sessions.{asked, given, satisfiable, unknown, unsatisfiable}
use Rattle.session_checker.specs.Lines.{Line, all_accepted, deletes, derives, events_of, fails, gives, gives_up, nothing, satisfies}
use Rattle.session_checker.specs.Refusals.{both_signs, by_line, core_cause, id_cause, lemma_cause, misses_assumption, misses_clause, model_cause, not_assumed}

-- of two that exclude each other the first is taken
abbrev pub two : List (List ℕ)
two = (neg 1 ∷ neg 2 ∷ []) ∷ (pos 1 ∷ []) ∷ []

-- they have the ids 1 and 2
abbrev pub named : ℕ → Option (List ℕ)
named = find (formula_store two)

-- one can be had, both fail; then the first is given, and the second fails alone
abbrev pub lines : List Line
lines = gives 1 (neg 1 ∷ neg 2 ∷ []) ∷ satisfies (pos 1 ∷ []) (pos 1 ∷ neg 2 ∷ [])
    ∷ fails (pos 1 ∷ pos 2 ∷ []) (pos 2 ∷ pos 1 ∷ []) (1 ∷ []) ∷ gives 4 (pos 1 ∷ []) ∷ gives_up []
    ∷ derives 5 (neg 2 ∷ []) (4 ∷ 1 ∷ []) ∷ deletes (1 ∷ 4 ∷ [])
    ∷ fails (pos 2 ∷ []) (pos 2 ∷ []) (5 ∷ []) ∷ []

-- one fact a row
pub record CheckedRows : Type 0 where
  pub free : id_cause named 3 ≡ None
  pub taken : id_cause named 2 ≡ Some (by_line id_taken)
  -- the second can't be taken
  pub lemma : lemma_cause named 3 (neg 2 ∷ []) (2 ∷ 1 ∷ []) ≡ None
  -- the first cause is that of the id
  pub lemma_taken : lemma_cause named 1 (neg 2 ∷ []) (9 ∷ []) ≡ Some (by_line id_taken)
  pub lemma_unknown : lemma_cause named 3 (neg 2 ∷ []) (9 ∷ 2 ∷ 1 ∷ []) ≡ Some (by_line unknown_id)
  pub lemma_not_unit : lemma_cause named 3 (neg 3 ∷ []) (1 ∷ []) ≡ Some (by_line not_unit)
  -- what comes after a conflict is not looked at
  pub lemma_early : lemma_cause named 3 (neg 2 ∷ []) (2 ∷ 1 ∷ 9 ∷ []) ≡ None
  -- this clause is redundant, but does not follow: a clause with 3 alone may be given next
  pub lemma_redundant : lemma_cause named 3 (neg 3 ∷ []) [] ≡ Some (by_line no_conflict)
  pub core : core_cause named (pos 1 ∷ pos 2 ∷ []) (pos 2 ∷ []) (2 ∷ 1 ∷ []) ≡ None
  pub core_short : core_cause named (pos 2 ∷ []) (pos 2 ∷ []) (1 ∷ []) ≡ Some (by_line no_conflict)
  -- hints are not looked at where a literal was not assumed, nor where two are opposite
  pub core_more : core_cause named (pos 1 ∷ []) (pos 2 ∷ []) (2 ∷ 1 ∷ []) ≡ Some not_assumed
  pub core_opposite : core_cause named (pos 3 ∷ neg 3 ∷ []) (neg 3 ∷ pos 3 ∷ []) (9 ∷ []) ≡ None
  pub model : model_cause two (neg 2 ∷ []) (pos 1 ∷ neg 2 ∷ []) ≡ None
  pub model_signs : model_cause two (pos 3 ∷ []) (pos 1 ∷ neg 2 ∷ neg 1 ∷ []) ≡ Some both_signs
  pub model_assumption : model_cause two (pos 3 ∷ []) (neg 1 ∷ []) ≡ Some misses_assumption
  pub model_second : model_cause two [] (neg 1 ∷ []) ≡ Some (misses_clause 2)
  pub model_first : model_cause two [] [] ≡ Some (misses_clause 1)
  pub session : all_accepted nothing lines ≡ true
  pub events : events_of lines ≡ given (neg 1 ∷ neg 2 ∷ [])
      ∷ asked (pos 1 ∷ []) (satisfiable (pos 1 ∷ neg 2 ∷ []))
      ∷ asked (pos 1 ∷ pos 2 ∷ []) (unsatisfiable (pos 2 ∷ pos 1 ∷ [])) ∷ given (pos 1 ∷ [])
      ∷ asked [] unknown ∷ asked (pos 2 ∷ []) (unsatisfiable (pos 2 ∷ [])) ∷ []
  -- a clause that is deleted is no hint, and a model must satisfy it
  pub deleted_hint : all_accepted nothing
      (gives 1 (pos 1 ∷ []) ∷ deletes (1 ∷ []) ∷ fails (neg 1 ∷ []) (neg 1 ∷ []) (1 ∷ []) ∷ []) ≡ false
  pub deleted_clause : all_accepted nothing
      (gives 1 (pos 1 ∷ []) ∷ deletes (1 ∷ []) ∷ satisfies [] (neg 1 ∷ []) ∷ []) ≡ false
