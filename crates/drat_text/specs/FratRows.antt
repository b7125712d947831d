-- What some proofs in FRAT say: their steps, with literals as codes (1 is 0, -1 is 1, 2 is 2, -2 is 3), and the ending.
use Rattle.std.specs.Prelude.{◌≡◌, true, false, [], ◌∷◌, codes}
use Rattle.drat_text.specs.declared.fault.DratKind.TheVariants.{Malformed, NumberTooLarge, Unfinished}
use Rattle.drat_text.specs.declared.frat_step.FratAction.TheVariants.{Original, Add, Delete, Final}
use Rattle.drat_text.specs.FratBytes.{is_frat}
use Rattle.drat_text.specs.Proofs.{outcome_of}
use Rattle.drat_text.specs.Steps.{Ended, Faulty}
use Rattle.drat_text.specs.FratRules.{frat}
use Rattle.drat_text.specs.FratProofs.{clause, hints, renames}

-- one fact a row
pub record FratRows : Type 0 where
  pub nothing : outcome_of frat [] ≡ ([], Ended)
  pub formula : outcome_of frat (codes "o 1 1 -2 0\nf 1 1 -2 0\n")
      ≡ (clause Original 1 (0 ∷ 3 ∷ []) ∷ clause Final 1 (0 ∷ 3 ∷ []) ∷ [], Ended)
  pub hinted : outcome_of frat (codes "a 3 1 0 l 1 -2 0\nd 3 1 0")
      ≡ (
        clause Add 3 (0 ∷ [])
            ∷ hints (record { id = 1; is_negative = false } ∷ record { id = 2; is_negative = true } ∷ [])
            ∷ clause Delete 3 (0 ∷ []) ∷ [],
        Ended,
      )
  pub renamed : outcome_of frat (codes "r 1 7 2 8 0\n")
      ≡ (renames (record { from = 1; to = 7 } ∷ record { from = 2; to = 8 } ∷ []) ∷ [], Ended)
  pub comments : outcome_of frat (codes "c x .\no1\n2\n0\nc") ≡ (clause Original 1 (2 ∷ []) ∷ [], Ended)
  pub hints_alone : outcome_of frat (codes "l 0 d 7 0\n") ≡ (hints [] ∷ clause Delete 7 [] ∷ [], Ended)
  pub largest_id : outcome_of frat (codes "f 1152921504606846975 0")
      ≡ (clause Final 1152921504606846975 [] ∷ [], Ended)
  pub percent_sign : outcome_of frat (codes "% x\no 1 1 0\n") ≡ ([], Faulty Malformed)
  pub negative_id : outcome_of frat (codes "o 1 1 0\nd -1 1 0\n")
      ≡ (clause Original 1 (0 ∷ []) ∷ [], Faulty Malformed)
  pub no_id : outcome_of frat (codes "o 0 1 0") ≡ ([], Faulty Malformed)
  pub half_a_pair : outcome_of frat (codes "r 1 0") ≡ ([], Faulty Malformed)
  pub no_letter : outcome_of frat (codes "1 2 0") ≡ ([], Faulty Malformed)
  pub large_id : outcome_of frat (codes "o 1152921504606846976 0") ≡ ([], Faulty NumberTooLarge)
  pub cut_off : outcome_of frat (codes "a 1 2 0\nl ") ≡ (clause Add 1 (2 ∷ []) ∷ [], Faulty Unfinished)
  pub binary : outcome_of frat (111 ∷ 1 ∷ 2 ∷ 5 ∷ 0 ∷ []) ≡ (clause Original 1 (0 ∷ 3 ∷ []) ∷ [], Ended)
  pub binary_hints : outcome_of frat (97 ∷ 131 ∷ 1 ∷ 127 ∷ 0 ∷ 108 ∷ 2 ∷ 5 ∷ 0 ∷ [])
      ≡ (
        clause Add 131 (125 ∷ [])
            ∷ hints (record { id = 1; is_negative = false } ∷ record { id = 2; is_negative = true } ∷ []) ∷ [],
        Ended,
      )
  pub binary_names : outcome_of frat (114 ∷ 1 ∷ 7 ∷ 130 ∷ 1 ∷ 8 ∷ 0 ∷ [])
      ≡ (renames (record { from = 1; to = 7 } ∷ record { from = 130; to = 8 } ∷ []) ∷ [], Ended)
  pub minus_zero : outcome_of frat (97 ∷ 1 ∷ 1 ∷ 0 ∷ []) ≡ ([], Faulty Malformed)
  pub ten_bytes : outcome_of frat
      (97 ∷ 129 ∷ 128 ∷ 128 ∷ 128 ∷ 128 ∷ 128 ∷ 128 ∷ 128 ∷ 128 ∷ 0 ∷ 0 ∷ [])
      ≡ ([], Faulty NumberTooLarge)
  pub told : is_frat (codes "\n\tc 1 0\no 1 1 0\n") ≡ true
  pub not_told : is_frat (codes "c o\nd 1 0\n") ≡ false
  pub no_step : is_frat (codes "c o 1 0") ≡ false
