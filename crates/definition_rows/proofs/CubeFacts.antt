-- The rows, by computation.
use Rattle.std.proofs.Common.{true, [], ◌∷◌, ◌++◌, refl, sym, arith}
use Rattle.std.proofs.lemmas.Bool.{false≢true}
use Rattle.std.proofs.lemmas.List.Elements.{All-cons, All-nil}
use Rattle.sat_rules.specs.Clauses.{pos}
use Rattle.refutation_rules.specs.Cubes.{IsRefuted, units_of}
use Rattle.definition_rows.specs.CubeRows.{CubeRows}

pub cube_rows : CubeRows
cube_rows = record {
  units = refl;
  against = refl;
  part = λ a. grind arith;
  cover = λ h. false≢true (sym (h (λ x. true)));
  whole = λ h. false≢true (sym (h (λ x. true)));
  no_clauses = λ h. false≢true (sym (h (λ x. true)));
  empty_clause = λ a. refl;
  split = λ law cs part cover. law cs ((pos 1 ∷ []) ∷ []) (All-cons (λ cube. IsRefuted (cs ++ units_of cube)) (pos 1 ∷ []) [] part (All-nil (λ cube. IsRefuted (cs ++ units_of cube)))) cover;
}
