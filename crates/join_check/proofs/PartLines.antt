-- The text of a part, from the formula's lines and those of the clauses in addition.
use Rattle.std.proofs.Common.{◌≡◌, ℕ, List, [], ◌∷◌, ◌++◌, map, refl, sym, ◌∙◌, ap, append_assoc, arith}
use Rattle.std.specs.Prelude.{All}
use Rattle.std.proofs.lemmas.List.Elements.{All-append, All-cons, All-map, All-nil, All-weaker}
use Rattle.refutation_rules.specs.Cubes.{clause_against, units_of}
use Rattle.sat_output.specs.FormulaTexts.{ClausesAreRead, clause_text, clauses_text}
use Rattle.written_numbers.specs.Words.{IsCode}
use Rattle.sat_rules.specs.Clauses.{negate}
use Rattle.sha2.specs.Sha256.{sha256}
use Rattle.join_check.specs.Hashed.{HasTaken, Takes}
use Rattle.join_check.specs.Parts.{ArePartTexts, IsPartDigest}
use Rattle.join_check.specs.declared.line_hasher.LineHasher.{LineHasher}
use Rattle.join_check.specs.declared.part_texts.PartTexts.{PartTexts}

lines_of_both : (cs ds : List (List ℕ)) → clauses_text (cs ++ ds) ≡ clauses_text cs ++ clauses_text ds
lines_of_both [] ds = refl
lines_of_both (c ∷ cs) ds =
    ap (λ (rest : List ℕ). clause_text c ++ 10 ∷ rest) (lines_of_both cs ds)
    ∙ sym (append_assoc (clause_text c) (10 ∷ clauses_text cs) (clauses_text ds))

-- ---- literals that can be read

pub units_small : (cube : List ℕ) → All IsCode cube → All (All IsCode) (units_of cube)
units_small cube h =
    All-map (All IsCode) (λ l. l ∷ []) cube
    (All-weaker IsCode (λ l. All IsCode (l ∷ [])) (λ l small. All-cons IsCode l [] small (All-nil IsCode)) cube h)

negate_small : (l : ℕ) → IsCode l → IsCode (negate l)
negate_small l h = grind arith

pub against_small : (cubes : List (List ℕ)) → All (All IsCode) cubes → All (All IsCode) (map clause_against cubes)
against_small cubes h =
    All-map (All IsCode) clause_against cubes
    (All-weaker (All IsCode) (λ cube. All IsCode (clause_against cube)) (λ cube small. All-map IsCode negate cube (All-weaker IsCode (λ l. IsCode (negate l)) negate_small cube small)) cubes h)

-- ---- the digest

-- by a hasher that begins with the formula's lines, and takes those of the clauses in addition
pub part_digest : (texts : PartTexts) (old new : LineHasher) (added : List (List ℕ)) (digest : List ℕ) → ClausesAreRead → All (All IsCode) added
    → ((formula : List (List ℕ)) → ArePartTexts formula texts → HasTaken old (clauses_text formula)) → Takes old new (clauses_text added)
    → ((text : List ℕ) → HasTaken new text → digest ≡ sha256 text) → IsPartDigest texts added digest
part_digest texts old new added digest read small begins takes digests = record {
  digests = λ formula are. digests _ (takes (clauses_text formula) (begins formula are)) ∙ ap sha256 (sym (lines_of_both formula added));
  read = λ formula are. read (formula ++ added) (All-append (All IsCode) formula added are.small small);
}
