-- What some proofs say: lines, each with its number, and the end or the fault; and in which form they are. Literals are codes: 1 is 0, -2 is 3.
use Rattle.std.specs.Prelude.{◌≡◌, [], ◌∷◌, codes, Some, None}
use Rattle.lrat_rules.specs.Lines.{adds, deletes, along, against}
use Rattle.lrat_text.specs.declared.fault.LineKind.TheVariants.{Malformed, NumberTooLarge, Unfinished}
use Rattle.lrat_text.specs.Texts.{Ended, Faulty}
use Rattle.lrat_binary.specs.declared.ids.Ids.TheVariants.{Plain, Doubled}
use Rattle.lrat_binary.specs.declared.ids.LratForm.TheVariants.{Text, Binary}
use Rattle.lrat_binary.specs.Lines.{binary_of}
use Rattle.lrat_binary.specs.Telling.{form_of}

-- one fact a row
pub record BinaryRows : Type 0 where
  pub nothing : binary_of Plain [] ≡ ([], Ended)
  pub plain : binary_of Plain (97 ∷ 4 ∷ 2 ∷ 5 ∷ 0 ∷ 2 ∷ 6 ∷ 0 ∷ [])
      ≡ ((1, adds 4 (0 ∷ 3 ∷ []) (along 1 ∷ along 3 ∷ [])) ∷ [], Ended)
  pub doubled : binary_of Doubled (97 ∷ 8 ∷ 2 ∷ 5 ∷ 0 ∷ 2 ∷ 6 ∷ 0 ∷ [])
      ≡ ((1, adds 4 (0 ∷ 3 ∷ []) (along 1 ∷ along 3 ∷ [])) ∷ [], Ended)
  pub groups : binary_of Plain (97 ∷ 8 ∷ 2 ∷ 0 ∷ 14 ∷ 7 ∷ 8 ∷ 13 ∷ 0 ∷ [])
      ≡ ((1, adds 8 (0 ∷ []) (along 7 ∷ against 3 ∷ along 4 ∷ against 6 ∷ [])) ∷ [], Ended)
  pub deletion : binary_of Plain (100 ∷ 3 ∷ 130 ∷ 1 ∷ 0 ∷ [])
      ≡ ((1, deletes (3 ∷ 130 ∷ [])) ∷ [], Ended)
  pub doubled_deletion : binary_of Doubled (100 ∷ 6 ∷ 132 ∷ 2 ∷ 0 ∷ [])
      ≡ ((1, deletes (3 ∷ 130 ∷ [])) ∷ [], Ended)
  pub two_lines : binary_of Plain (97 ∷ 4 ∷ 0 ∷ 0 ∷ 100 ∷ 4 ∷ 0 ∷ [])
      ≡ ((1, adds 4 [] []) ∷ (2, deletes (4 ∷ [])) ∷ [], Ended)
  -- 4 and 0, in more bytes than they need
  pub groups_of_zero : binary_of Plain (97 ∷ 132 ∷ 0 ∷ 128 ∷ 0 ∷ 128 ∷ 128 ∷ 0 ∷ [])
      ≡ ((1, adds 4 [] []) ∷ [], Ended)
  pub largest_literal : binary_of Plain (97 ∷ 4 ∷ 129 ∷ 128 ∷ 128 ∷ 128 ∷ 2 ∷ 0 ∷ 0 ∷ [])
      ≡ ((1, adds 4 (536870911 ∷ []) []) ∷ [], Ended)
  pub large_variable : binary_of Plain (97 ∷ 4 ∷ 130 ∷ 128 ∷ 128 ∷ 128 ∷ 2 ∷ 0 ∷ 0 ∷ [])
      ≡ ([], Faulty 1 NumberTooLarge)
  pub nine_bytes : binary_of Plain
      (97 ∷ 255 ∷ 255 ∷ 255 ∷ 255 ∷ 255 ∷ 255 ∷ 255 ∷ 255 ∷ 127 ∷ 0 ∷ 0 ∷ [])
      ≡ ((1, adds 9223372036854775807 [] []) ∷ [], Ended)
  pub ten_bytes : binary_of Plain
      (97 ∷ 132 ∷ 128 ∷ 128 ∷ 128 ∷ 128 ∷ 128 ∷ 128 ∷ 128 ∷ 128 ∷ 0 ∷ 0 ∷ 0 ∷ [])
      ≡ ([], Faulty 1 NumberTooLarge)
  pub id_zero : binary_of Plain (97 ∷ 4 ∷ 0 ∷ 0 ∷ 97 ∷ 0 ∷ 0 ∷ 0 ∷ [])
      ≡ ((1, adds 4 [] []) ∷ [], Faulty 2 Malformed)
  pub odd_id : binary_of Doubled (97 ∷ 5 ∷ 0 ∷ 0 ∷ []) ≡ ([], Faulty 1 Malformed)
  pub odd_id_deleted : binary_of Doubled (100 ∷ 4 ∷ 3 ∷ 0 ∷ []) ≡ ([], Faulty 1 Malformed)
  pub literal_one : binary_of Plain (97 ∷ 4 ∷ 1 ∷ 0 ∷ 0 ∷ []) ≡ ([], Faulty 1 Malformed)
  pub hint_one : binary_of Plain (97 ∷ 4 ∷ 0 ∷ 1 ∷ 0 ∷ []) ≡ ([], Faulty 1 Malformed)
  pub other_letter : binary_of Plain (100 ∷ 0 ∷ 99 ∷ 10 ∷ [])
      ≡ ((1, deletes []) ∷ [], Faulty 2 Malformed)
  pub cut_off : binary_of Plain (97 ∷ 4 ∷ 0 ∷ 0 ∷ 97 ∷ 5 ∷ 0 ∷ [])
      ≡ ((1, adds 4 [] []) ∷ [], Faulty 2 Unfinished)
  pub cut_number : binary_of Plain (100 ∷ 132 ∷ []) ≡ ([], Faulty 1 Unfinished)
  -- ---- forms, after formulas of this many clauses
  pub text : form_of None 3 (codes "4 1 0 1 0\n") ≡ Text
  pub text_of_a_deletion : form_of None 3 (codes "d 1 0\n") ≡ Text
  pub no_bytes : form_of (Some Plain) 3 [] ≡ Text
  -- the next id after those of the formula is 4
  pub next_id : form_of None 3 (97 ∷ 4 ∷ 2 ∷ 5 ∷ 0 ∷ 2 ∷ 6 ∷ 0 ∷ []) ≡ Binary Plain
  pub doubled_ids : form_of None 3 (97 ∷ 8 ∷ 3 ∷ 5 ∷ 0 ∷ 3 ∷ 6 ∷ 0 ∷ 100 ∷ 2 ∷ 0 ∷ [])
      ≡ Binary Doubled
  -- 200, which is the next id, or twice that
  pub long_next_id : form_of None 199 (97 ∷ 200 ∷ 1 ∷ 0 ∷ 0 ∷ []) ≡ Binary Plain
  pub long_doubled_id : form_of None 99 (97 ∷ 200 ∷ 1 ∷ 0 ∷ 0 ∷ []) ≡ Binary Doubled
  pub odd_line : form_of None 3 (97 ∷ 8 ∷ 0 ∷ 0 ∷ 97 ∷ 129 ∷ 1 ∷ 0 ∷ 0 ∷ []) ≡ Binary Plain
  pub odd_deletion : form_of None 3 (100 ∷ 2 ∷ 3 ∷ 0 ∷ []) ≡ Binary Plain
  pub given_ids : form_of (Some Doubled) 3 (100 ∷ 2 ∷ 3 ∷ 0 ∷ []) ≡ Binary Doubled
