-- The parts of a formula, cube after cube.
use Rattle.std.proofs.Common.{◌≡◌, ℕ, true, false, List, [], ◌∷◌, ◌++◌, map, ap, sym, ◌∙◌, append_assoc}
use Rattle.std.specs.Prelude.{All}
use Rattle.std.proofs.lemmas.Bool.{false≢true}
use Rattle.std.proofs.lemmas.List.Elements.{All-append, All-cons, All-map, All-nil}
use Rattle.refutation_rules.specs.Cubes.{clause_against, units_of}
use Rattle.receipts.specs.Joins.{parts_of}
use Rattle.receipts.specs.declared.receipt.Receipt.{Receipt}
use Rattle.sha2.specs.Sha256.{sha256}
use Rattle.join_check.specs.Digests.{HasShown, is_shown}
use Rattle.join_check.specs.Parts.{ArePartTexts, IsPartDigest}
use Rattle.join_check.specs.Shown.{IsPartShown, part_text}
use Rattle.join_check.specs.Verdicts.{IsUnshown}
use Rattle.join_check.specs.declared.digests.ShownDigests.{ShownDigests}
use Rattle.join_check.specs.declared.part_texts.PartTexts.{PartTexts}

-- a part whose digest is among those that are shown
pub shown_by : (texts : PartTexts) (formula added : List (List ℕ)) (digest : List ℕ) (receipts : List Receipt) (shown : ShownDigests) → IsPartDigest texts added digest
    → ArePartTexts formula texts → HasShown receipts shown → is_shown shown digest ≡ true → IsPartShown receipts formula added
shown_by texts formula added digest receipts shown of are all some = record {
  read = of.read formula are;
  shown = all.sound (sha256 (part_text formula added)) (rw (of.digests formula are) at some);
}

-- one whose digest is not among them
pub unshown_by : (texts : PartTexts) (formula added : List (List ℕ)) (digest : List ℕ) (receipts : List Receipt) (shown : ShownDigests) → IsPartDigest texts added digest
    → ArePartTexts formula texts → HasShown receipts shown → is_shown shown digest ≡ false → IsUnshown receipts formula added
unshown_by texts formula added digest receipts shown of are all none h =
    false≢true (sym none ∙ rw (of.digests formula are) (all.whole (sha256 (part_text formula added)) h))

-- the first of those to come is one of those before
pub one_over : {A : Type 0} (all before left rest : List A) (x : A) → all ≡ before ++ left → left ≡ x ∷ rest → all ≡ (before ++ x ∷ []) ++ rest
one_over all before left rest x e steps = e ∙ ap (λ l. before ++ l) steps ∙ sym (append_assoc before (x ∷ []) rest)

-- the parts of the cubes, and the closing part
pub all_parts : (P : List (List ℕ) → Type 0) (cubes : List (List ℕ)) → All (λ cube. P (units_of cube)) cubes → P (map clause_against cubes) → All P (parts_of cubes)
all_parts P cubes units closing =
    All-append P (map units_of cubes) (map clause_against cubes ∷ []) (All-map P units_of cubes units)
    (All-cons P (map clause_against cubes) [] closing (All-nil P))
