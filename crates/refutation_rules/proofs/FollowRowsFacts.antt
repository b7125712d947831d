-- The rows, by computation.
use Rattle.std.proofs.Common.{◌==◌, true, [], ◌∷◌, refl, arith}
use Rattle.std.proofs.lemmas.Bool.{false≢true, true≢false}
use Rattle.sat_rules.specs.Clauses.{neg, pos}
use Rattle.refutation_rules.specs.FollowRows.{FollowRows}

pub follow_rows : FollowRows
follow_rows = record {
  entailed = λ a h. grind (arith, h);
  open_claim = λ f. false≢true (f (λ x. x == 1) refl);
  second_open = λ f. false≢true (f (λ x. x == 1) refl);
  tautology = λ a h. grind arith;
  unsatisfiable = λ a h. absurd (false≢true h);
  empty_clause = λ f. false≢true (f (λ x. x == 1) refl);
  asked = refl;
  satisfiable = λ m. true≢false (m.refuted (λ x. true));
  twice = λ m. let a = m.needed [] (pos 1 ∷ []) ((neg 1 ∷ []) ∷ (pos 1 ∷ []) ∷ []) refl in absurd (grind (arith, a.1));
  needless = λ m. let a = m.needed ([] ∷ []) (pos 1 ∷ []) [] refl in false≢true a.1;
}
