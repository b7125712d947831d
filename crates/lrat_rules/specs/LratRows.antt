-- Worked rows: lines on small stores, by DIMACS numbers.
use Rattle.std.specs.Prelude.{◌≡◌, ℕ, ◌==◌, List, [], ◌∷◌, true, false, Some, None}
use Rattle.sat_rules.specs.Clauses.{all_true, clause_true, neg, pos}
use Rattle.sat_rules.specs.Named.{Item}
use Rattle.lrat_rules.specs.Laws.{all_rup}
use Rattle.lrat_rules.specs.Lines.{Line, adds, against, along, by_rup, deletes, refutes, run, step}
use Rattle.lrat_rules.specs.Stores.{clauses_of, formula_store}

-- 1: -1 2    2: 2 3    3: 2 -3
abbrev pub three : List Item
three = formula_store ((neg 1 ∷ pos 2 ∷ []) ∷ (pos 2 ∷ pos 3 ∷ []) ∷ (pos 2 ∷ neg 3 ∷ []) ∷ [])

-- 1: 1 2    2: 1 -2    3: -1 2    4: -1 -2
abbrev pub four : List (List ℕ)
four = (pos 1 ∷ pos 2 ∷ []) ∷ (pos 1 ∷ neg 2 ∷ []) ∷ (neg 1 ∷ pos 2 ∷ []) ∷ (neg 1 ∷ neg 2 ∷ []) ∷
    []

-- 1: -1 2    2: -1 3
abbrev pub both : List Item
both = formula_store ((neg 1 ∷ pos 2 ∷ []) ∷ (neg 1 ∷ pos 3 ∷ []) ∷ [])

-- 3 or 1, not both
abbrev pub with_new : List Line
with_new =
    adds 5 (pos 3 ∷ pos 1 ∷ []) []
    ∷ adds 6 (neg 3 ∷ neg 1 ∷ []) (against 5 ∷ [])
    ∷ adds 7 (pos 1 ∷ []) (along 1 ∷ along 2 ∷ [])
    ∷ adds 8 [] (along 7 ∷ along 3 ∷ along 4 ∷ [])
    ∷ []

-- one fact a row
pub record LratRows : Type 0 where
  -- `4 2 0 2 3 0`: from -2 follows 3 by 2, and 3 is falsified
  pub rup : step three (adds 4 (pos 2 ∷ []) (along 2 ∷ along 3 ∷ [])) ≡
      Some (record { id = 4; lits = pos 2 ∷ [] } ∷ three)
  -- `4 2 0 2 0`: no conflict, and no clause holds -2
  pub pure : run three (adds 4 (pos 2 ∷ []) (along 2 ∷ []) ∷ []) ≡
      Some (record { id = 4; lits = pos 2 ∷ [] } ∷ three)
  pub pure_no_rup : by_rup three (pos 2 ∷ []) (along 2 ∷ []) ≡ false
  -- `4 1 0 -1 2 3 0`: clause 1 holds -1, and with 2 false the hints lead to a conflict
  pub rat : step three (adds 4 (pos 1 ∷ []) (against 1 ∷ along 2 ∷ along 3 ∷ [])) ≡
      Some (record { id = 4; lits = pos 1 ∷ [] } ∷ three)
  -- `4 1 0 0`: no group
  pub no_group : step three (adds 4 (pos 1 ∷ []) []) ≡ None
  -- `4 1 0 -1 2 0`: the hints of the group lead to no conflict
  pub no_conflict : step three (adds 4 (pos 1 ∷ []) (against 1 ∷ along 2 ∷ [])) ≡ None
  -- `4 1 0 -2 2 3 0`: a group of another clause
  pub other_group : step three (adds 4 (pos 1 ∷ []) (against 2 ∷ along 2 ∷ along 3 ∷ [])) ≡ None
  -- `4 1 -2 0 -1 -2 0`: 2 of clause 1 is true once the new clause is false; clause 2 does not hold -1, and its group is not read
  pub blocked : step three (adds 4 (pos 1 ∷ neg 2 ∷ []) (against 1 ∷ against 2 ∷ [])) ≡
      Some (record { id = 4; lits = pos 1 ∷ neg 2 ∷ [] } ∷ three)
  -- `4 -2 1 0 -1 0`: the pivot is the first literal, and 2 and 3 hold its negation too
  pub other_pivot : step three (adds 4 (neg 2 ∷ pos 1 ∷ []) (against 1 ∷ [])) ≡ None
  -- `3 1 -2 -3 0 -2 -1 0` on 1: -1 2    2: -1 3: groups in any order, and none is left out
  pub any_order : step both (adds 3 (pos 1 ∷ neg 2 ∷ neg 3 ∷ []) (against 2 ∷ against 1 ∷ [])) ≡
      Some (record { id = 3; lits = pos 1 ∷ neg 2 ∷ neg 3 ∷ [] } ∷ both)
  pub one_missing : step both (adds 3 (pos 1 ∷ neg 2 ∷ neg 3 ∷ []) (against 2 ∷ [])) ≡ None
  -- `3 d 1 0`, after which nothing holds -1
  pub deletion : step three (deletes (1 ∷ [])) ≡
      Some (record { id = 2; lits = pos 2 ∷ pos 3 ∷ [] } ∷
      record { id = 3; lits = pos 2 ∷ neg 3 ∷ [] } ∷ [])
  pub after_deletion : run three (deletes (1 ∷ []) ∷ adds 4 (pos 1 ∷ []) [] ∷ []) ≡
      Some (record { id = 4; lits = pos 1 ∷ [] } ∷ record { id = 2; lits = pos 2 ∷ pos 3 ∷ [] } ∷
      record { id = 3; lits = pos 2 ∷ neg 3 ∷ [] } ∷ [])
  -- `3 d 9 0`: no clause has the id, and nothing happens
  pub unknown_deletion : step three (deletes (9 ∷ [])) ≡ Some three
  -- `4 2 0 9 0`: a hint names no clause
  pub unknown_hint : step three (adds 4 (pos 2 ∷ []) (along 9 ∷ [])) ≡ None
  pub deleted_hint : run three (deletes (2 ∷ []) ∷ adds 4 (pos 2 ∷ []) (along 2 ∷ along 3 ∷ []) ∷
      []) ≡ None
  -- `3 2 0 2 3 0`: the id is taken
  pub taken_id : step three (adds 3 (pos 2 ∷ []) (along 2 ∷ along 3 ∷ [])) ≡ None
  -- `5 0 1 3 4 0` on the four clauses: two literals of the first are not false
  pub two_free : step (formula_store four) (adds 5 [] (along 1 ∷ along 3 ∷ along 4 ∷ [])) ≡ None
  -- `4 0 0`: the empty clause has no pivot
  pub empty_clause : step three (adds 4 [] []) ≡ None
  -- the new clause of `rat` is no consequence: with 2 alone true the three are true, and 1 is not
  pub not_implied : (all_true (λ x. x == 1) (clauses_of three) ≡ true)
      × (clause_true (λ x. x == 1) (pos 1 ∷ []) ≡ false)
  -- `4 1 0 -1 -1 2 3 0`: the first group of an id counts
  pub first_group : step three (adds 4 (pos 1 ∷ [])
      (against 1 ∷ against 1 ∷ along 2 ∷ along 3 ∷ [])) ≡ None
  -- `4 1 3 0 2 -1 0`: 2, which clause 2 makes true, serves in the group
  pub led_rat : step three (adds 4 (pos 1 ∷ pos 3 ∷ []) (along 2 ∷ against 1 ∷ [])) ≡
      Some (record { id = 4; lits = pos 1 ∷ pos 3 ∷ [] } ∷ three)
  -- `4 1 3 0 -1 0`: and without that hint it does not
  pub not_led : step three (adds 4 (pos 1 ∷ pos 3 ∷ []) (against 1 ∷ [])) ≡ None
  -- `4 2 0 2 2 3 9 0`: a literal that is true already is no fault, and hints after the conflict are not read
  pub again : step three (adds 4 (pos 2 ∷ []) (along 2 ∷ along 2 ∷ along 3 ∷ along 9 ∷ [])) ≡
      Some (record { id = 4; lits = pos 2 ∷ [] } ∷ three)
  -- `3 0 1 2 0` on 1: 1 1    2: -1
  pub repeated : refutes (formula_store ((pos 1 ∷ pos 1 ∷ []) ∷ (neg 1 ∷ []) ∷ []))
      (adds 3 [] (along 1 ∷ along 2 ∷ []) ∷ []) ≡ true
  -- `5 1 0 1 2 0` and `6 0 5 3 4 0` refute the four clauses
  pub refuted : refutes (formula_store four)
      (adds 5 (pos 1 ∷ []) (along 1 ∷ along 2 ∷ []) ∷ adds 6 [] (along 5 ∷ along 3 ∷ along 4 ∷ []) ∷
      []) ≡ true
  pub refuted_rup : all_rup (formula_store four)
      (adds 5 (pos 1 ∷ []) (along 1 ∷ along 2 ∷ []) ∷ adds 6 [] (along 5 ∷ along 3 ∷ along 4 ∷ []) ∷
      []) ≡ true
  pub not_refuted : refutes (formula_store four)
      (adds 5 (pos 1 ∷ []) (along 1 ∷ along 2 ∷ []) ∷ adds 6 [] (along 3 ∷ along 4 ∷ []) ∷ []) ≡
      false
  -- refuted after two clauses on a new variable: `5 3 1 0 0`, `6 -3 -1 0 -5 0`, `7 1 0 1 2 0`, `8 0 7 3 4 0`
  pub refuted_rat : refutes (formula_store four) with_new ≡ true
  pub not_rup : all_rup (formula_store four) with_new ≡ false
