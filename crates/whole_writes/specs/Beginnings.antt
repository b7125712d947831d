-- What a write that fails leaves.
--     AppendsBeginning old new bytes      a beginning of the bytes was appended
use Rattle.std.specs.Prelude.{ℕ, ◌≤◌, List, Option, length, take}
use Rattle.std.specs.Io.KnownBytes.{Appends}

-- known bytes grow by a beginning of these: by none, some or all of them
pub record AppendsBeginning (old new : Option (List ℕ)) (bytes : List ℕ) : Type 0 where
  pub count : ℕ
  pub within : count ≤ length bytes
  pub appended : Appends old new (take count bytes)
