-- The digests from which receipts lead to a formula that is refuted.
--     is_shown shown digest      the digest is among them
--     HasShown receipts shown      they are all digests from which the receipts lead to one that is refuted
use Rattle.std.specs.Prelude.{◌≡◌, ℕ, Bool, true, List}
use Rattle.std.specs.HashSet.{contains}
use Rattle.std.specs.Str.{bytes_eq}
use Rattle.receipts.specs.Joins.{IsShown}
use Rattle.receipts.specs.declared.receipt.Receipt.{Receipt}
use Rattle.join_check.specs.declared.digests.ShownDigests.{ShownDigests}

-- the set has it
abbrev pub is_shown : ShownDigests → List ℕ → Bool
is_shown shown digest = contains bytes_eq shown.digests digest

-- those and no others
pub record HasShown (receipts : List Receipt) (shown : ShownDigests) : Type 0 where
  pub sound : (digest : List ℕ) → is_shown shown digest ≡ true → IsShown receipts digest
  pub whole : (digest : List ℕ) → IsShown receipts digest → is_shown shown digest ≡ true
