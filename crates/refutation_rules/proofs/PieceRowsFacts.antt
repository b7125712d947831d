-- The rows, by computation and by the laws.
use Rattle.std.proofs.Common.{◌==◌, true, [], ◌∷◌, refl, sym, arith}
use Rattle.std.proofs.lemmas.Bool.{false≢true}
use Rattle.sat_rules.specs.Clauses.{pos}
use Rattle.lrat_rules.specs.Lines.{adds, against, along}
use Rattle.refutation_rules.specs.Cubes.{IsRefuted}
use Rattle.refutation_rules.specs.PieceRows.{PieceRows, behind, bound, first, three, whole}
use Rattle.refutation_rules.proofs.Joining.{piece_carries}

bound_refuted : IsRefuted bound
bound_refuted a = grind arith

pub piece_rows : PieceRows
piece_rows = record {
  ran = refl;
  named = (refl, (refl, (refl, tt)));
  chain = (piece_carries whole bound (3 ∷ 4 ∷ 5 ∷ []) behind first refl (refl, (refl, (refl, tt))), bound_refuted);
  open_end = λ h. false≢true (sym (h.1 (λ x. true)));
  deleted = λ n. absurd (let e = n.0 in cc);
  too_few = λ n. n.1.1;
  too_many = λ n. n.1.1.1;
  other_order = λ n. absurd (let e = n.0 in cc);
  redundant = piece_carries three ((pos 1 ∷ []) ∷ []) (4 ∷ []) _ (adds 4 (pos 1 ∷ []) (against 1 ∷ along 2 ∷ along 3 ∷ []) ∷ []) refl (refl, tt);
  no_consequence = (refl, refl);
  empty_clause = λ h. false≢true ((h (λ x. x == 1) refl).1);
}
