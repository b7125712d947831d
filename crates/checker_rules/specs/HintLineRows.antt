-- Rows on lines of hints: what a checker of hints answers, and what a writer writes. In the notes literals are written as in DIMACS.
use Rattle.std.specs.Prelude.{◌≡◌, List, [], ◌∷◌, true, false, Some, None}
use Rattle.sat_rules.specs.HintLines.{Listed, adds_clause, after_line, deletes_clauses, id_not_greater, line_cause, listing, no_conflict, not_unit, unknown_id}
use Rattle.sat_rules.specs.Clauses.{neg, pos}
use Rattle.checker_rules.specs.HintRun.{HintStep, lowers, puts_derived, puts_input, removes}
use Rattle.checker_rules.specs.WrittenLines.{after_written, input_after_derived, lines_of, new_writer, too_many_inputs, writer_fault}

-- [1] and [-1]
abbrev pub opposite_units : Listed
opposite_units = listing ((pos 1 ∷ []) ∷ (neg 1 ∷ []) ∷ [])

-- [1,2], [1,-2], [-1,2], [-1,-2] as input clauses, and a refutation of them
abbrev pub refutation_steps : List HintStep
refutation_steps =
    puts_input 0 (pos 1 ∷ pos 2 ∷ []) ∷ puts_input 1 (pos 1 ∷ neg 2 ∷ []) ∷
    puts_input 2 (neg 1 ∷ pos 2 ∷ []) ∷ puts_input 3 (neg 1 ∷ neg 2 ∷ [])
    ∷ puts_derived 4 (pos 1 ∷ []) (0 ∷ 1 ∷ []) ∷ puts_derived 5 [] (4 ∷ 2 ∷ 3 ∷ []) ∷ []

-- one fact or more a row
pub record HintLineRows : Type 0 where
  pub accepted : line_cause opposite_units (adds_clause 5 [] (1 ∷ 2 ∷ [])) ≡ None
  pub accepted_empty : (after_line opposite_units (adds_clause 5 [] (1 ∷ 2 ∷ []))).added_empty ≡
      true
  -- the ids of the formula are taken
  pub formula_id : line_cause opposite_units (adds_clause 2 [] (1 ∷ 2 ∷ [])) ≡ Some id_not_greater
  pub conflict_missing : line_cause opposite_units (adds_clause 5 [] (1 ∷ [])) ≡ Some no_conflict
  pub hints_missing : line_cause opposite_units (adds_clause 5 [] []) ≡ Some no_conflict
  -- the second of three is falsified, and not unit
  pub early_conflict : line_cause opposite_units (adds_clause 5 [] (1 ∷ 2 ∷ 2 ∷ [])) ≡ Some not_unit
  pub unknown_hint : line_cause opposite_units (adds_clause 5 [] (3 ∷ 2 ∷ [])) ≡ Some unknown_id
  -- a stored clause may be added again, and its id is not free after its deletion
  pub repeated : line_cause opposite_units (adds_clause 5 (pos 1 ∷ []) (1 ∷ [])) ≡ None
  pub repeated_empty : (after_line opposite_units
      (adds_clause 5 (pos 1 ∷ []) (1 ∷ []))).added_empty ≡ false
  pub deleted_id : line_cause (after_line
      (after_line opposite_units (adds_clause 5 (pos 1 ∷ []) (1 ∷ [])))
      (deletes_clauses 5 (5 ∷ []))) (adds_clause 5 [] (1 ∷ 2 ∷ [])) ≡ Some id_not_greater
  -- a hint to a deleted clause; a deletion of what is not there
  pub deleted_hint : line_cause (after_line opposite_units (deletes_clauses 2 (1 ∷ 7 ∷ [])))
      (adds_clause 5 [] (1 ∷ 2 ∷ [])) ≡ Some unknown_id
  -- a repeated literal counts once
  pub repeated_literal : line_cause (listing ((pos 1 ∷ pos 1 ∷ []) ∷ (neg 1 ∷ []) ∷ []))
      (adds_clause 5 [] (1 ∷ 2 ∷ [])) ≡ None
  -- ids of derived clauses come after the announced ones
  pub refutation_lines : lines_of (new_writer 4) refutation_steps ≡
      adds_clause 9 (pos 1 ∷ []) (1 ∷ 2 ∷ []) ∷ adds_clause 10 [] (9 ∷ 3 ∷ 4 ∷ []) ∷ []
  -- a deletion begins with the number of the last addition, or the announced number
  pub deletion_line : lines_of (new_writer 3)
      (puts_input 0 (pos 1 ∷ pos 2 ∷ []) ∷ puts_input 1 (pos 1 ∷ pos 2 ∷ []) ∷
      puts_input 2 (pos 1 ∷ []) ∷ lowers 0 false (pos 1 ∷ pos 2 ∷ []) (2 ∷ []) ∷ []) ≡
      deletes_clauses 3 (1 ∷ []) ∷ []
  pub later_deletion_line : lines_of (new_writer 2)
      (puts_input 0 (pos 1 ∷ []) ∷ puts_input 1 (neg 1 ∷ []) ∷ puts_derived 2 [] (0 ∷ 1 ∷ []) ∷
      removes 0 ∷ []) ≡ adds_clause 5 [] (1 ∷ 2 ∷ []) ∷ deletes_clauses 5 (1 ∷ []) ∷ []
  pub kept_clause : lines_of (new_writer 1)
      (puts_input 0 (pos 1 ∷ pos 2 ∷ []) ∷ lowers 0 true (pos 1 ∷ pos 2 ∷ []) (0 ∷ []) ∷ []) ≡ []
  pub late_input : writer_fault (after_written
      (after_written (new_writer 2) (puts_input 0 (pos 1 ∷ [])))
      (puts_derived 1 (pos 1 ∷ pos 2 ∷ []) (0 ∷ []))) (puts_input 2 (pos 3 ∷ [])) ≡
      Some input_after_derived
  pub second_input : writer_fault (after_written (new_writer 1) (puts_input 0 (pos 1 ∷ [])))
      (puts_input 1 (neg 1 ∷ [])) ≡ Some too_many_inputs
