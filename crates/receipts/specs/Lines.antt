-- The text of receipts.
--     receipt_line receipt      its line, with its LF
--     receipts_text receipts      the lines of receipts, one after the other
use Rattle.std.specs.Prelude.{ℕ, List, [], ◌∷◌, ◌++◌, codes}
use Rattle.hex.specs.Hex.{encode_lower}
use Rattle.receipts.specs.declared.receipt.Receipt.{Receipt}
use Rattle.receipts.specs.declared.receipt.Receipt.TheVariants.{Refuted, Carries, Satisfied}

-- the name of the hash function, and the digest in lower case
abbrev pub digest_text : List ℕ → List ℕ
digest_text digest = codes " sha256 " ++ encode_lower digest

-- what was shown, and of which formula; a second one that it carries to
abbrev pub receipt_line : Receipt → List ℕ
receipt_line (Refuted digest) = codes "refuted" ++ digest_text digest ++ 10 ∷ []
receipt_line (Carries digest next) = codes "carries" ++ digest_text digest ++ digest_text next ++ 10 ∷ []
receipt_line (Satisfied digest) = codes "satisfied" ++ digest_text digest ++ 10 ∷ []

-- lines, and nothing else
abbrev pub receipts_text : List Receipt → List ℕ
receipts_text [] = []
receipts_text (receipt ∷ receipts) = receipt_line receipt ++ receipts_text receipts
