-- The rows, by computation.
use Rattle.std.proofs.Common.{◌∙◌, true, [], ◌∷◌, refl, sym, arith}
use Rattle.std.proofs.lemmas.Bool.{false≢true}
use Rattle.refutation_rules.specs.Cubes.{IsRefuted}
use Rattle.refutation_rules.specs.Carrying.{Carries}
use Rattle.definition_rows.specs.ChainRows.{ChainRows, both, empty, one}

both_refuted : IsRefuted both
both_refuted a = grind arith

both_carry : Carries both both
both_carry a t = (a, t)

both_carry_empty : Carries both empty
both_carry_empty a t = absurd (false≢true (sym (both_refuted a) ∙ t))

open_one : IsRefuted one → ⊥
open_one h = false≢true (sym (h (λ x. true)))

one_to_empty : Carries one empty → ⊥
one_to_empty h = false≢true ((h (λ x. true) refl).1)

pub chain_rows : ChainRows
chain_rows = record {
  whole = both_refuted;
  two_pieces = (both_carry, (both_carry_empty, λ a. refl));
  open_formula = open_one;
  open_end = λ h. open_one h.1;
  first_piece = λ h. one_to_empty h.0;
  second_piece = λ h. one_to_empty h.1.0;
  joined = λ law cs ds carries refuted. law cs (ds ∷ []) (carries, refuted);
}
