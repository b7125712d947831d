-- What some texts say: lines, each with its number, and the end or the fault. Literals are codes: 1 is 0, -2 is 3.
use Rattle.std.specs.Prelude.{◌≡◌, [], ◌∷◌, codes}
use Rattle.lrat_rules.specs.Lines.{adds, deletes, along, against}
use Rattle.lrat_text.specs.declared.fault.LineKind.TheVariants.{Malformed, NumberTooLarge, Unfinished}
use Rattle.lrat_text.specs.Texts.{Ended, Faulty, outcome_of}

-- one fact a row
pub record TextRows : Type 0 where
  pub empty : outcome_of [] ≡ ([], Ended)
  pub addition : outcome_of (codes "4 1 -2 0 1 3 0\n") ≡
      ((1, adds 4 (0 ∷ 3 ∷ []) (along 1 ∷ along 3 ∷ [])) ∷ [], Ended)
  pub without_lf : outcome_of (codes "4 0 1 0") ≡ ((1, adds 4 [] (along 1 ∷ [])) ∷ [], Ended)
  pub groups : outcome_of (codes "8 1 0 7 -3 4 -6 0\n") ≡
      ((1, adds 8 (0 ∷ []) (along 7 ∷ against 3 ∷ along 4 ∷ against 6 ∷ [])) ∷ [], Ended)
  pub deletion : outcome_of (codes "5 d 1 2 0\n") ≡ ((1, deletes (1 ∷ 2 ∷ [])) ∷ [], Ended)
  pub deletion_under_zero : outcome_of (codes "0 d 7 0\n") ≡ ((1, deletes (7 ∷ [])) ∷ [], Ended)
  pub passed_over : outcome_of (codes "c x\n \t\n\n4 0 0\nc") ≡ ((4, adds 4 [] []) ∷ [], Ended)
  pub two_lines : outcome_of (codes "4 0 0\n5 d 4 0\n") ≡
      ((1, adds 4 [] []) ∷ (2, deletes (4 ∷ [])) ∷ [], Ended)
  pub carriage_returns : outcome_of (codes "4 0 0\r\n\r\n") ≡ ((1, adds 4 [] []) ∷ [], Ended)
  pub leading_zeros : outcome_of (codes "004 -01 00 002 000") ≡
      ((1, adds 4 (1 ∷ []) (along 2 ∷ [])) ∷ [], Ended)
  pub largest_numbers : outcome_of
      (codes "18446744073709551615 268435456 0 -18446744073709551615 0") ≡ (
        (1, adds 18446744073709551615 (536870910 ∷ []) (against 18446744073709551615 ∷ [])) ∷ [],
        Ended,
      )
  pub id_too_large : outcome_of (codes "18446744073709551616 0 0") ≡ ([], Faulty 1 NumberTooLarge)
  pub hint_too_large : outcome_of (codes "4 0 -18446744073709551616 0") ≡
      ([], Faulty 1 NumberTooLarge)
  pub variable_too_large : outcome_of (codes "4 268435457 0 0") ≡ ([], Faulty 1 NumberTooLarge)
  pub id_zero : outcome_of (codes "0 0 0") ≡ ([], Faulty 1 Malformed)
  pub negative_id : outcome_of (codes "-4 0 0") ≡ ([], Faulty 1 Malformed)
  pub negative_id_deleted : outcome_of (codes "5 d -4 0") ≡ ([], Faulty 1 Malformed)
  pub minus_zero : outcome_of (codes "4 -0 0") ≡ ([], Faulty 1 Malformed)
  pub sign_alone : outcome_of (codes "4 - 0 0") ≡ ([], Faulty 1 Malformed)
  pub plus_sign : outcome_of (codes "4 +1 0 0") ≡ ([], Faulty 1 Malformed)
  pub no_number : outcome_of (codes "4 0 0\n5 x 0 0") ≡ ((1, adds 4 [] []) ∷ [], Faulty 2 Malformed)
  pub delete_elsewhere : outcome_of (codes "4 0 d 0") ≡ ([], Faulty 1 Malformed)
  pub word_after_the_end : outcome_of (codes "4 0 0 c") ≡ ([], Faulty 1 Malformed)
  pub zero_missing : outcome_of (codes "4 0 1\n") ≡ ([], Faulty 1 Malformed)
  pub unfinished : outcome_of (codes "4 0 1") ≡ ([], Faulty 1 Unfinished)
  pub id_alone : outcome_of (codes "4") ≡ ([], Faulty 1 Unfinished)
  pub malformed_and_unfinished : outcome_of (codes "4 x") ≡ ([], Faulty 1 Malformed)
