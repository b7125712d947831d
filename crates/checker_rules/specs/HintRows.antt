-- Rows on the hint machine: what it admits, and what it does not.
use Rattle.std.specs.Prelude.{ℕ, List, [], ◌∷◌, true, false}
use Rattle.sat_rules.specs.Named.{Machine, put_id}
use Rattle.sat_rules.specs.Clauses.{neg, pos}
use Rattle.checker_rules.specs.CallEmissions.{empty_machine}
use Rattle.checker_rules.specs.HintRun.{IsRun, MayDo, fails_core, lowers, puts_derived, puts_input, removes}

-- [1] under 3 and [-1] under 4
abbrev pub two_clauses : Machine
two_clauses = put_id 4 (neg 1 ∷ []) (put_id 3 (pos 1 ∷ []) empty_machine)

-- one fact a row
pub record HintRows : Type 0 where
  -- [] follows from both, in either order, and from neither alone
  pub conflict : IsRun two_clauses
      (puts_derived 5 [] (3 ∷ 4 ∷ []) ∷ puts_derived 6 [] (4 ∷ 3 ∷ []) ∷ [])
  pub no_conflict : MayDo two_clauses (puts_derived 5 [] (3 ∷ [])) → ⊥
  -- each clause before the last is unit, and the list ends with the falsified one
  pub not_unit : MayDo two_clauses (puts_derived 5 [] (3 ∷ 3 ∷ 4 ∷ [])) → ⊥
  pub after_conflict : MayDo two_clauses (puts_derived 5 [] (3 ∷ 4 ∷ 4 ∷ [])) → ⊥
  pub no_list : MayDo two_clauses (puts_derived 5 (pos 1 ∷ []) []) → ⊥
  pub one_clause : MayDo two_clauses (puts_derived 5 (pos 1 ∷ pos 2 ∷ []) (3 ∷ []))
  pub unknown_id : MayDo two_clauses (puts_derived 5 [] (2 ∷ 4 ∷ [])) → ⊥
  -- an id is greater than all that were put, also than one removed
  pub same_id : (c : List ℕ) → MayDo two_clauses (puts_input 4 c) → ⊥
  pub lower_id : MayDo two_clauses (puts_derived 2 (pos 1 ∷ []) (3 ∷ [])) → ⊥
  pub removed_id : (c : List ℕ) → IsRun two_clauses (removes 4 ∷ puts_input 4 c ∷ []) → ⊥
  pub skipped_id : IsRun two_clauses (puts_input 9 [] ∷ [])
  pub removed_clause : IsRun two_clauses (removes 3 ∷ puts_derived 5 [] (3 ∷ 4 ∷ []) ∷ []) → ⊥
  -- a deletion does not rely on its own clause, and removes it unless it is kept
  pub own_id : MayDo two_clauses (lowers 3 false (pos 1 ∷ []) (3 ∷ [])) → ⊥
  pub lowered : IsRun two_clauses (lowers 4 false (pos 1 ∷ pos 2 ∷ []) (3 ∷ []) ∷
      puts_derived 5 [] (3 ∷ 4 ∷ []) ∷ []) → ⊥
  pub kept : IsRun two_clauses (lowers 4 true (pos 1 ∷ pos 2 ∷ []) (3 ∷ []) ∷
      puts_derived 5 [] (3 ∷ 4 ∷ []) ∷ [])
  -- a core fails by its negation, or by opposite literals and no list
  pub core : MayDo two_clauses (fails_core (neg 1 ∷ pos 2 ∷ []) (3 ∷ []))
  pub true_core : MayDo two_clauses (fails_core (pos 2 ∷ []) (3 ∷ [])) → ⊥
  pub opposite_core : MayDo empty_machine (fails_core (pos 1 ∷ neg 1 ∷ []) [])
  pub silent_core : MayDo empty_machine (fails_core (pos 1 ∷ []) []) → ⊥
