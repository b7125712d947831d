-- What honest receipts show together.
use Rattle.std.proofs.Common.{◌≡◌, ℕ, List, [], ◌∷◌, ◌++◌, map, All, sym, ap, ◌∙◌}
use Rattle.std.proofs.lemmas.List.Elements.{All-cons, All-contains, All-head, All-nil, All-tail}
use Rattle.sha2.specs.Sha256.{sha256}
use Rattle.refutation_rules.specs.Cubes.{CubesCover, clause_against, units_of}
use Rattle.refutation_rules.specs.Cubes as cubes
use Rattle.refutation_rules.specs.Pieces.{PiecesJoin}
use Rattle.sat_formula.specs.Outcome.{Outcome}
use Rattle.sat_formula.specs.Refuted.{IsRefuted}
use Rattle.receipts.specs.Honesty.{IsHonest, StandsFor}
use Rattle.receipts.specs.Joins.{IsPartShown, IsShown, LeadsBy, PartsAreRefuted, ShownIsRefuted, parts_of}
use Rattle.receipts.specs.declared.receipt.Receipt.{Receipt}
use Rattle.receipts.specs.declared.receipt.Receipt.TheVariants.{Refuted, Carries}

module _ (join : PiecesJoin) (text_of : List ℕ → List ℕ) (receipts : List Receipt) (honest : All (IsHonest text_of) receipts) where
  -- along the path, from its end
  leads : (digest : List ℕ) (path : List (List ℕ)) → LeadsBy receipts digest path → IsRefuted (text_of digest)
  leads digest [] h = All-contains (IsHonest text_of) receipts (Refuted digest) honest h
  leads digest (next ∷ path) h =
      let carries = All-contains (IsHonest text_of) receipts (Carries digest next) honest h.0 in
      let after = leads next path h.1 in
      let same : after.0 ≡ carries.2.0 = ap (λ (o : Outcome). o.0) (sym after.1 ∙ carries.2.1) in
      (carries.0, carries.1, join carries.0 (carries.2.0 ∷ []) (carries.2.2, rw (← same) after.2))

  pub shown : (text : List ℕ) → StandsFor text_of text → IsShown receipts (sha256 text) → IsRefuted text
  shown text stands h = rw stands at (leads (sha256 text) h.0 h.1)

-- the parts of the cubes, and the closing part
units_and_last : (P : List (List ℕ) → Type 0) (split : List (List ℕ)) (last : List (List ℕ)) → All P (map units_of split ++ last ∷ []) → All (λ cube. P (units_of cube)) split × P last
units_and_last P [] last h = (All-nil (λ cube. P (units_of cube)), All-head P last [] h)
units_and_last P (q ∷ qs) last h =
    let rest = units_and_last P qs last (All-tail P (units_of q) (map units_of qs ++ last ∷ []) h) in
    (All-cons (λ cube. P (units_of cube)) q qs (All-head P (units_of q) (map units_of qs ++ last ∷ []) h) rest.0, rest.1)

module _ (shows : ShownIsRefuted) (cover : CubesCover) (text_for : List (List ℕ) → List ℕ) (text_of : List ℕ → List ℕ) (receipts : List Receipt) (honest : All (IsHonest text_of) receipts) where
  part : (formula added : List (List ℕ)) → StandsFor text_of (text_for (formula ++ added)) → IsPartShown text_for receipts formula added → cubes.IsRefuted (formula ++ added)
  part formula added stands p =
      let refuted = shows text_of receipts (text_for (formula ++ added)) honest stands p.shown in
      let same : refuted.0 ≡ formula ++ added = ap (λ (o : Outcome). o.0) (sym refuted.1 ∙ p.read) in
      rw (← same) refuted.2

  each : (formula : List (List ℕ)) (parts : List (List (List ℕ))) → All (λ added. StandsFor text_of (text_for (formula ++ added))) parts
      → All (IsPartShown text_for receipts formula) parts → All (λ added. cubes.IsRefuted (formula ++ added)) parts
  each formula parts stands shown = λ k d lt. part formula _ (stands k d lt) (shown k d lt)

  pub parts : (formula split : List (List ℕ)) → All (λ added. StandsFor text_of (text_for (formula ++ added))) (parts_of split)
      → All (IsPartShown text_for receipts formula) (parts_of split) → cubes.IsRefuted formula
  parts formula split stands shown =
      let both = units_and_last (λ added. cubes.IsRefuted (formula ++ added)) split (map clause_against split) (each formula (parts_of split) stands shown) in
      cover formula split both.0 both.1
