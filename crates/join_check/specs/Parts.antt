-- The texts of the parts of a formula, which all begin with the lines of its clauses.
--     ArePartTexts formula texts      they are the texts of this formula's parts
--     IsPartDigest texts added digest      of the text of the part that has these clauses in addition, which is read as the part
use Rattle.std.specs.Prelude.{◌≡◌, ℕ, List, ◌++◌, All}
use Rattle.sha2.specs.Hashers.{Holds256}
use Rattle.sha2.specs.Sha256.{sha256}
use Rattle.sat_formula.specs.Lines.{outcome_of}
use Rattle.sat_formula.specs.Outcome.{Ended}
use Rattle.sat_output.specs.FormulaTexts.{clauses_text}
use Rattle.written_numbers.specs.Words.{IsCode}
use Rattle.join_check.specs.Shown.{part_text}
use Rattle.join_check.specs.declared.part_texts.PartTexts.{PartTexts}

-- the hasher has taken these lines, and all literals can be read
pub record ArePartTexts (formula : List (List ℕ)) (texts : PartTexts) : Type 0 where
  pub lines : Holds256 texts.hasher (clauses_text formula)
  pub small : All (All IsCode) formula

-- the formula whose texts they are
pub record IsPartDigest (texts : PartTexts) (added : List (List ℕ)) (digest : List ℕ) : Type 0 where
  pub digests : (formula : List (List ℕ)) → ArePartTexts formula texts
      → digest ≡ sha256 (part_text formula added)
  pub read : (formula : List (List ℕ)) → ArePartTexts formula texts
      → outcome_of (part_text formula added) ≡ (formula ++ added, Ended)
