-- The counts of literals in a map.
use Rattle.std.specs.Prelude.{ℕ, nat_eq}
use Rattle.std.specs.HashMap.{HashMap, get}
use Rattle.std.specs.Map.{count_at}
use Rattle.std.specs.declared.hash.BuildHasherDefault.{BuildHasherDefault}
use Rattle.std.specs.declared.hash.FoldHasher.{FoldHasher}

-- the count of a literal, or 0
abbrev pub far_count : HashMap ℕ ℕ (BuildHasherDefault FoldHasher) → ℕ → ℕ
far_count m = count_at (get nat_eq m)
