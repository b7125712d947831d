-- What some answers say: the literals, as codes (1 is 0, -1 is 1, 2 is 2, -2 is 3), or a fault and its line.
use Rattle.std.specs.Prelude.{◌≡◌, [], ◌∷◌, codes}
use Rattle.answer_text.specs.declared.fault.AnswerKind.TheVariants.{Malformed, NumberTooLarge, Unsatisfiable, Unknown, SecondStatus, AfterEnd, BothSigns, Unfinished, NoStatus}
use Rattle.answer_text.specs.Answers.{Lists, Faulty, outcome_of}

-- one fact a row
pub record AnswerRows : Type 0 where
  pub one_line : outcome_of (codes "s SATISFIABLE\nv 1 -2 0\n") ≡ Lists (0 ∷ 3 ∷ [])
  pub comments : outcome_of (codes "c x\ns SATISFIABLE\nv 1\nc\nv 2 0\nc 3\n") ≡ Lists (0 ∷ 2 ∷ [])
  pub status_last : outcome_of (codes "v -1 0\ns SATISFIABLE") ≡ Lists (1 ∷ [])
  pub no_literal : outcome_of (codes "s SATISFIABLE\nv 0") ≡ Lists []
  pub bare_list : outcome_of (codes "1 -2\n\n 003 0") ≡ Lists (0 ∷ 3 ∷ 4 ∷ [])
  pub bare_with_status : outcome_of (codes "s SATISFIABLE\n1 0") ≡ Lists (0 ∷ [])
  pub carriage_returns : outcome_of (codes "s  SATISFIABLE \r\nv 1 0\r\n\r\n") ≡ Lists (0 ∷ [])
  pub both_signs : outcome_of (codes "1 -2\n\n 002 0") ≡ Faulty 3 BothSigns
  pub repeated : outcome_of (codes "1 1 0") ≡ Lists (0 ∷ 0 ∷ [])
  pub largest : outcome_of (codes "-268435456 0") ≡ Lists (536870911 ∷ [])
  pub too_large : outcome_of (codes "1\n268435457 0") ≡ Faulty 2 NumberTooLarge
  pub unsatisfiable : outcome_of (codes "c\ns UNSATISFIABLE\n") ≡ Faulty 2 Unsatisfiable
  pub unknown : outcome_of (codes "s UNKNOWN") ≡ Faulty 1 Unknown
  pub told_twice : outcome_of (codes "s SATISFIABLE\ns SATISFIABLE\n1 0") ≡ Faulty 2 SecondStatus
  pub other_word : outcome_of (codes "s SATISFIABLES\n1 0") ≡ Faulty 1 Malformed
  pub half_a_word : outcome_of (codes "s SATISFI") ≡ Faulty 1 Malformed
  pub two_words : outcome_of (codes "s SATISFIABLE 1\n") ≡ Faulty 1 Malformed
  pub no_blank : outcome_of (codes "sSATISFIABLE\n1 0") ≡ Faulty 1 Malformed
  pub no_blank_after_v : outcome_of (codes "s SATISFIABLE\nv1 0") ≡ Faulty 2 Malformed
  pub no_number : outcome_of (codes "1 x 0") ≡ Faulty 1 Malformed
  pub letter_after_digits : outcome_of (codes "1x 0") ≡ Faulty 1 Malformed
  pub minus_zero : outcome_of (codes "1 -0") ≡ Faulty 1 Malformed
  pub sign_alone : outcome_of (codes "1 -\n0") ≡ Faulty 1 Malformed
  pub number_after_the_end : outcome_of (codes "1 0\n2 0") ≡ Faulty 2 AfterEnd
  pub second_end : outcome_of (codes "1 0 0") ≡ Faulty 1 AfterEnd
  pub no_end : outcome_of (codes "s SATISFIABLE\nv 1 2\n") ≡ Faulty 3 Unfinished
  pub no_end_cut : outcome_of (codes "s SATISFIABLE\nv 1 2") ≡ Faulty 2 Unfinished
  pub no_list : outcome_of (codes "s SATISFIABLE\n") ≡ Faulty 2 Unfinished
  pub empty : outcome_of [] ≡ Faulty 1 Unfinished
  pub first_line : outcome_of (codes "SAT\n1 -2 0\n") ≡ Lists (0 ∷ 3 ∷ [])
  pub first_line_of_none : outcome_of (codes "UNSAT\n") ≡ Faulty 1 Unsatisfiable
  pub second_line : outcome_of (codes "c\nSAT\n1 0\n") ≡ Faulty 2 Malformed
  pub first_line_and_status : outcome_of (codes "SAT\ns SATISFIABLE\n1 0\n") ≡ Faulty 2 SecondStatus
  pub first_line_goes_on : outcome_of (codes "SATISFIABLE\n1 0\n") ≡ Faulty 1 Malformed
  pub unknown_after_a_status : outcome_of (codes "s SATISFIABLE\ns UNKNOWN\n") ≡ Faulty 2 Unknown
  pub large_after_the_end : outcome_of (codes "1 0\n268435457 ") ≡ Faulty 2 NumberTooLarge
  pub v_alone : outcome_of (codes "s SATISFIABLE\nv\nv 1 0\n") ≡ Lists (0 ∷ [])
  pub no_status : outcome_of (codes "v 1 0\n") ≡ Faulty 2 NoStatus
