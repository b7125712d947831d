-- What a hasher of lines has taken.
--     HasTaken lines text      it has taken this text
--     Takes old new more      it has taken these lines in addition
use Rattle.std.specs.Prelude.{◌≡◌, ℕ, List, ◌++◌}
use Rattle.sha2.specs.Hashers.{Holds256}
use Rattle.join_check.specs.declared.line_hasher.LineHasher.{LineHasher}

-- its hasher the beginning, and the last lines come after that
pub record HasTaken (taker : LineHasher) (text : List ℕ) : Type 0 where
  pub begun : List ℕ
  pub hashed : Holds256 taker.hasher begun
  pub whole : text ≡ begun ++ taker.lines.items

-- whatever text it had taken
abbrev pub Takes : LineHasher → LineHasher → List ℕ → Type 0
Takes old new more = (text : List ℕ) → HasTaken old text → HasTaken new (text ++ more)
