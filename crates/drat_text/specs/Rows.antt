-- What some proofs say: their steps, with literals as codes (1 is 0, -1 is 1, 2 is 2, -2 is 3), and the ending.
use Rattle.std.specs.Prelude.{◌≡◌, [], ◌∷◌, ◌++◌, replicate, codes}
use Rattle.drat_text.specs.declared.bytes.Format.TheVariants.{Text, Binary}
use Rattle.drat_text.specs.declared.fault.DratKind.TheVariants.{Malformed, NumberTooLarge, Unfinished}
use Rattle.drat_text.specs.DratRules.{adds, deletes, drat}
use Rattle.drat_text.specs.Proofs.{format_of, outcome_of}
use Rattle.drat_text.specs.Steps.{Ended, Faulty}

-- one fact a row
pub record DratRows : Type 0 where
  pub nothing : outcome_of drat [] ≡ ([], Ended)
  pub addition : outcome_of drat (codes "1 -2 0\n") ≡ (adds (0 ∷ 3 ∷ []) ∷ [], Ended)
  pub deletion : outcome_of drat (codes "d 1 -2 0\n") ≡ (deletes (0 ∷ 3 ∷ []) ∷ [], Ended)
  pub empty_clause : outcome_of drat (codes "0\n") ≡ (adds [] ∷ [], Ended)
  pub without_lf : outcome_of drat (codes "1 0") ≡ (adds (0 ∷ []) ∷ [], Ended)
  pub across_lines : outcome_of drat (codes "1\n2\n0 d1 0")
      ≡ (adds (0 ∷ 2 ∷ []) ∷ deletes (0 ∷ []) ∷ [], Ended)
  pub order : outcome_of drat (codes "2 -1 2 0\n") ≡ (adds (2 ∷ 1 ∷ 2 ∷ []) ∷ [], Ended)
  pub blanks : outcome_of drat (codes "\n \t1\t0\r\n\r\n") ≡ (adds (0 ∷ []) ∷ [], Ended)
  pub comments : outcome_of drat (codes "c 1 0\n% x\n1 0 c d\n2 0\n%")
      ≡ (adds (0 ∷ []) ∷ adds (2 ∷ []) ∷ [], Ended)
  pub leading_zeros : outcome_of drat (codes "01 -002 00 000")
      ≡ (adds (0 ∷ 3 ∷ []) ∷ adds [] ∷ [], Ended)
  pub largest : outcome_of drat (codes "268435456 -268435456 0")
      ≡ (adds (536870910 ∷ 536870911 ∷ []) ∷ [], Ended)
  pub large_variable : outcome_of drat (codes "1 0\n268435457 0\n2 0\n")
      ≡ (adds (0 ∷ []) ∷ [], Faulty NumberTooLarge)
  pub many_digits : outcome_of drat (codes "1 0\n18446744073709551617 0\n")
      ≡ (adds (0 ∷ []) ∷ [], Faulty NumberTooLarge)
  pub large_at_the_end : outcome_of drat (codes "-268435457") ≡ ([], Faulty NumberTooLarge)
  pub large_no_number : outcome_of drat (codes "268435457x 0") ≡ ([], Faulty Malformed)
  pub minus_zero : outcome_of drat (codes "1 -0\n") ≡ ([], Faulty Malformed)
  pub sign_alone : outcome_of drat (codes "- 1 0\n") ≡ ([], Faulty Malformed)
  pub plus_sign : outcome_of drat (codes "+1 0\n") ≡ ([], Faulty Malformed)
  pub comment_in_a_step : outcome_of drat (codes "1 c\n0\n") ≡ ([], Faulty Malformed)
  pub letter_in_a_step : outcome_of drat (codes "1 d 2 0\n") ≡ ([], Faulty Malformed)
  pub two_letters : outcome_of drat (codes "d d 1 0\n") ≡ ([], Faulty Malformed)
  pub letter_of_addition : outcome_of drat (codes "0\na 1 0\n") ≡ (adds [] ∷ [], Faulty Malformed)
  pub cut_off : outcome_of drat (codes "1 0\nd 2") ≡ (adds (0 ∷ []) ∷ [], Faulty Unfinished)
  pub cut_sign : outcome_of drat (codes "1 -") ≡ ([], Faulty Unfinished)
  pub letter_alone : outcome_of drat (codes "d") ≡ ([], Faulty Unfinished)
  -- binary
  pub binary_addition : outcome_of drat (97 ∷ 4 ∷ 0 ∷ []) ≡ (adds (2 ∷ []) ∷ [], Ended)
  pub binary_steps : outcome_of drat (100 ∷ 2 ∷ 5 ∷ 0 ∷ 97 ∷ 0 ∷ [])
      ≡ (deletes (0 ∷ 3 ∷ []) ∷ adds [] ∷ [], Ended)
  -- -63 and -8193; 129 and -8191
  pub binary_groups : outcome_of drat
      (100 ∷ 127 ∷ 131 ∷ 128 ∷ 1 ∷ 0 ∷ 97 ∷ 130 ∷ 2 ∷ 255 ∷ 127 ∷ 0 ∷ [])
      ≡ (deletes (125 ∷ 16385 ∷ []) ∷ adds (256 ∷ 16381 ∷ []) ∷ [], Ended)
  -- 1 in two groups, and the 0 behind it
  pub groups_of_zero : outcome_of drat (97 ∷ 130 ∷ 0 ∷ 128 ∷ 0 ∷ []) ≡ (adds (0 ∷ []) ∷ [], Ended)
  pub binary_largest : outcome_of drat
      (97 ∷ 128 ∷ 128 ∷ 128 ∷ 128 ∷ 2 ∷ 129 ∷ 128 ∷ 128 ∷ 128 ∷ 2 ∷ 0 ∷ [])
      ≡ (adds (536870910 ∷ 536870911 ∷ []) ∷ [], Ended)
  pub binary_large : outcome_of drat (97 ∷ 130 ∷ 128 ∷ 128 ∷ 128 ∷ 2 ∷ 0 ∷ [])
      ≡ ([], Faulty NumberTooLarge)
  pub six_bytes : outcome_of drat (97 ∷ 0 ∷ 97 ∷ 130 ∷ 128 ∷ 128 ∷ 128 ∷ 128 ∷ 0 ∷ 0 ∷ [])
      ≡ (adds [] ∷ [], Faulty NumberTooLarge)
  pub number_one : outcome_of drat (97 ∷ 1 ∷ 0 ∷ []) ≡ ([], Faulty Malformed)
  pub other_letter : outcome_of drat (97 ∷ 0 ∷ 99 ∷ 10 ∷ []) ≡ (adds [] ∷ [], Faulty Malformed)
  pub binary_cut_off : outcome_of drat (97 ∷ 0 ∷ 97 ∷ 2 ∷ []) ≡ (adds [] ∷ [], Faulty Unfinished)
  pub cut_number : outcome_of drat (97 ∷ 130 ∷ []) ≡ ([], Faulty Unfinished)
  -- what begins with an `a` is binary, also of bytes that text has, and what begins with a `d` by a byte that no text has
  pub begins_as_binary : outcome_of drat (codes "a 1 0") ≡ ([], Faulty Unfinished)
  pub binary_by_a_later_byte : outcome_of drat (codes "d 1 0\n" ++ 2 ∷ []) ≡ ([], Faulty Unfinished)
  -- of 4,096 bytes the last, and the one after them
  pub binary_by_the_last_byte : format_of drat (100 ∷ replicate 4094 32 ++ 2 ∷ []) ≡ Binary
  pub text_before_that_byte : format_of drat (100 ∷ replicate 4095 32 ++ 2 ∷ []) ≡ Text
