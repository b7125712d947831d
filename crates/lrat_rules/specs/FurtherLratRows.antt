-- Further rows: why lines are rejected, and lines that wrong rules would judge otherwise.
use Rattle.std.specs.Prelude.{◌≡◌, List, [], ◌∷◌, true, false, Some, None}
use Rattle.sat_rules.specs.Named.{Item}
use Rattle.sat_rules.specs.Clauses.{neg, pos}
use Rattle.lrat_rules.specs.Causes.{group_fails, group_missing, id_taken, no_conflict, not_unit, unknown_id}
use Rattle.lrat_rules.specs.Lines.{accepts, adds, against, along, deletes, is_refuted, refutes, run}
use Rattle.lrat_rules.specs.LratRows.{both, four, three}
use Rattle.lrat_rules.specs.Refusals.{cause_of_line}
use Rattle.lrat_rules.specs.Stores.{formula_store}

-- 1: 1 -1    2: -1 2
abbrev pub tautology : List Item
tautology = formula_store ((pos 1 ∷ neg 1 ∷ []) ∷ (neg 1 ∷ pos 2 ∷ []) ∷ [])

-- one fact a row
pub record FurtherLratRows : Type 0 where
  -- `3 2 0 2 3 0` on 1: -1 2    2: 2 3    3: 2 -3: the id is stored, whatever the hints show
  pub taken : cause_of_line three (adds 3 (pos 2 ∷ []) (along 2 ∷ along 3 ∷ [])) ≡ Some id_taken
  -- `4 2 0 9 0`: no clause has the id
  pub unknown : cause_of_line three (adds 4 (pos 2 ∷ []) (along 9 ∷ [])) ≡ Some unknown_id
  -- `5 0 1 9 0` on the four clauses: the first hint that is no good decides
  pub first_hint : cause_of_line (formula_store four) (adds 5 [] (along 1 ∷ along 9 ∷ [])) ≡
      Some not_unit
  -- `4 2 0 2 0` on 2: 2 3 and 3: -2 4: the hints end, and -2 is stored
  pub ends : cause_of_line (formula_store ((pos 2 ∷ pos 3 ∷ []) ∷ (neg 2 ∷ pos 4 ∷ []) ∷ []))
      (adds 3 (pos 2 ∷ []) (along 1 ∷ [])) ≡ Some no_conflict
  -- `4 1 0 -2 0`: there are groups, and clause 1 holds -1 and has none
  pub missing : cause_of_line three (adds 4 (pos 1 ∷ []) (against 2 ∷ [])) ≡ Some group_missing
  -- `3 1 -2 -3 0 -2 0` on 1: -1 2    2: -1 3
  pub one_missing : cause_of_line both (adds 3 (pos 1 ∷ neg 2 ∷ neg 3 ∷ []) (against 2 ∷ [])) ≡
      Some group_missing
  -- `4 1 0 -1 2 0`: the hints of the group lead to no conflict; so they do where they name no clause
  pub fails : cause_of_line three (adds 4 (pos 1 ∷ []) (against 1 ∷ along 2 ∷ [])) ≡
      Some group_fails
  pub fails_unknown : cause_of_line three (adds 4 (pos 1 ∷ []) (against 1 ∷ along 9 ∷ [])) ≡
      Some group_fails
  -- `3 1 0 -2 0` on 1: -1 2    2: -1 3: one is missing, and one fails
  pub fails_first : cause_of_line both (adds 3 (pos 1 ∷ []) (against 2 ∷ [])) ≡ Some group_fails
  -- `4 0 -1 2 3 0`: the empty clause has no pivot, and its groups are not read
  pub empty_with_groups : cause_of_line three (adds 4 [] (against 1 ∷ along 2 ∷ along 3 ∷ [])) ≡
      Some no_conflict
  -- `4 0 2 -1 0`: but its leading hints are
  pub empty_stuck : cause_of_line three (adds 4 [] (along 2 ∷ against 1 ∷ [])) ≡ Some not_unit
  -- `4 1 1 0 -1 2 3 0`: a pivot that occurs twice
  pub doubled_pivot : accepts three
      (adds 4 (pos 1 ∷ pos 1 ∷ []) (against 1 ∷ along 2 ∷ along 3 ∷ [])) ≡ true
  -- `2 1 0 -1 0` on 1: -1 -1 2: the negation is removed wherever it occurs, and 2 is left
  pub doubled_negation : cause_of_line (formula_store ((neg 1 ∷ neg 1 ∷ pos 2 ∷ []) ∷ []))
      (adds 2 (pos 1 ∷ []) (against 1 ∷ [])) ≡ Some group_fails
  pub doubled_negation_met : accepts (formula_store ((neg 1 ∷ neg 1 ∷ pos 2 ∷ []) ∷ []))
      (adds 2 (pos 1 ∷ neg 2 ∷ []) (against 1 ∷ [])) ≡ true
  -- `4 2 -2 0 0`: a tautology is not accepted for being one: clause 1 of -2 2 needs its group
  pub added_tautology : cause_of_line (formula_store ((neg 2 ∷ pos 3 ∷ []) ∷ []))
      (adds 2 (pos 2 ∷ neg 2 ∷ []) []) ≡ Some no_conflict
  -- `2 2 -2 0 -1 0`: 2 is true and false, and the rest of clause 1 is neither
  pub tautology_fails : cause_of_line (formula_store ((neg 2 ∷ pos 3 ∷ []) ∷ []))
      (adds 2 (pos 2 ∷ neg 2 ∷ []) (against 1 ∷ [])) ≡ Some group_fails
  -- `2 2 -2 0 1 0` on 1: -2 2: both its literals are false
  pub tautology_follows : accepts (formula_store ((neg 2 ∷ pos 2 ∷ []) ∷ []))
      (adds 2 (pos 2 ∷ neg 2 ∷ []) (along 1 ∷ [])) ≡ true
  -- `3 2 0 1 0` on 1: 1 -1    2: -1 2: a stored tautology is never unit before a literal of it has a value
  pub stored_tautology : cause_of_line tautology (adds 3 (pos 2 ∷ []) (along 1 ∷ [])) ≡
      Some not_unit
  -- `3 2 0 2 1 0`: with -1 it is, and nothing new becomes true
  pub tautology_is_unit : cause_of_line tautology (adds 3 (pos 2 ∷ []) (along 2 ∷ along 1 ∷ [])) ≡
      None
  -- `3 1 0 -2 0`: it holds -1, and needs its group
  pub tautology_needs_group : cause_of_line tautology
      (adds 3 (pos 1 ∷ neg 2 ∷ []) (against 2 ∷ [])) ≡ Some group_missing
  -- `4 d 1 0`, `4 1 0 -1 0`: the group of a deleted clause is not read, and none is needed
  pub deleted_group : run three (deletes (1 ∷ []) ∷ adds 4 (pos 1 ∷ []) (against 1 ∷ []) ∷ []) ≡
      Some (record { id = 4; lits = pos 1 ∷ [] } ∷ record { id = 2; lits = pos 2 ∷ pos 3 ∷ [] } ∷
      record { id = 3; lits = pos 2 ∷ neg 3 ∷ [] } ∷ [])
  -- `4 d 1 2 3 1 0`: an id may be listed twice
  pub deleted_twice : run three (deletes (1 ∷ 2 ∷ 3 ∷ 1 ∷ []) ∷ []) ≡ Some []
  -- `900 2 0 2 3 0`, `7 0 900 0`: ids may leave gaps, and need not rise
  pub gaps : run three (adds 900 (pos 2 ∷ []) (along 2 ∷ along 3 ∷ []) ∷ adds 7 (pos 2 ∷ pos 9 ∷ [])
      (along 900 ∷ []) ∷ deletes (1 ∷ 2 ∷ 3 ∷ []) ∷ []) ≡
      Some (record { id = 7; lits = pos 2 ∷ pos 9 ∷ [] } ∷ record { id = 900; lits = pos 2 ∷ [] } ∷
      [])
  -- `3 d 3 0`, `3 2 -3 0 ..`: a deleted id may be used again, and names the new clause
  pub again : run (formula_store four)
      (adds 5 (pos 1 ∷ []) (along 1 ∷ along 2 ∷ []) ∷ deletes (5 ∷ []) ∷
      adds 5 (neg 1 ∷ []) (along 3 ∷ along 4 ∷ []) ∷ deletes (1 ∷ 2 ∷ 3 ∷ 4 ∷ []) ∷ []) ≡
      Some (record { id = 5; lits = neg 1 ∷ [] } ∷ [])
  -- lines after the empty clause need not be accepted
  pub after_empty : refutes (formula_store ((pos 1 ∷ []) ∷ (neg 1 ∷ []) ∷ []))
      (adds 3 [] (along 1 ∷ along 2 ∷ []) ∷ adds 3 [] [] ∷ []) ≡ true
  -- an empty clause of the formula is not added by a line
  pub empty_in_formula : refutes (formula_store ([] ∷ [])) [] ≡ false
  -- but it refutes the formula
  pub empty_alone : is_refuted ([] ∷ []) [] ≡ true
  pub empty_among : is_refuted ((pos 1 ∷ []) ∷ [] ∷ (neg 1 ∷ []) ∷ []) [] ≡ true
  pub none_empty : is_refuted ((pos 1 ∷ []) ∷ (neg 1 ∷ []) ∷ []) [] ≡ false
  -- and it can be named by a hint
  pub empty_in_formula_named : refutes (formula_store ([] ∷ [])) (adds 2 [] (along 1 ∷ []) ∷ []) ≡
      true
