-- What the texts of receipts say of a formula's text.
--     IsRefutedByReceipts said text      where the receipts are honest and mean this text, no assignment satisfies it
--     IsRefutedByParts said cubes text      the same where they mean the texts of its parts
use Rattle.std.specs.Prelude.{◌≡◌, ℕ, List, All}
use Rattle.sat_formula.specs.Lines.{outcome_of}
use Rattle.sat_formula.specs.Outcome.{Ended}
use Rattle.sat_formula.specs.Refuted.{IsRefuted}
use Rattle.receipts.specs.Honesty.{IsHonest, StandsFor}
use Rattle.receipts.specs.Joins.{parts_of}
use Rattle.receipts.specs.Lines.{receipts_text}
use Rattle.receipts.specs.declared.receipt.Receipt.{Receipt}
use Rattle.join_check.specs.Shown.{part_text}

-- `text_of` gives the text that was meant by each digest
pub record IsRefutedByReceipts (said text : List ℕ) : Type 0 where
  pub receipts : List Receipt
  pub lines : said ≡ receipts_text receipts
  pub refutes : (text_of : List ℕ → List ℕ) → All (IsHonest text_of) receipts
      → StandsFor text_of text → IsRefuted text

-- the parts are those of the formula and the cubes that are read
pub record IsRefutedByParts (said cubes text : List ℕ) : Type 0 where
  pub receipts : List Receipt
  pub lines : said ≡ receipts_text receipts
  pub formula : List (List ℕ)
  pub whole : outcome_of text ≡ (formula, Ended)
  pub split : List (List ℕ)
  pub parted : outcome_of cubes ≡ (split, Ended)
  pub refutes : (text_of : List ℕ → List ℕ) → All (IsHonest text_of) receipts
      → All (λ added. StandsFor text_of (part_text formula added)) (parts_of split) → IsRefuted text
