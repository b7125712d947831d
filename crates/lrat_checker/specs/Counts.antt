-- Counts of literals.
--     count_by near far l      the count of a literal by places and by a map
--     lit_count c l      how often a literal stands in stored clauses
use Rattle.std.specs.Prelude.{ℕ, ◌+◌, List, slice_index}
use Rattle.std.specs.HashMap.{HashMap}
use Rattle.std.specs.declared.hash.BuildHasherDefault.{BuildHasherDefault}
use Rattle.std.specs.declared.hash.FoldHasher.{FoldHasher}
use Rattle.lrat_checker.specs.FarCounts.{far_count}
use Rattle.lrat_checker.specs.declared.counts.LitCounts.{LitCounts}

-- the count of a literal: what its place and the map hold together
unfoldable pub count_by : List ℕ → HashMap ℕ ℕ (BuildHasherDefault FoldHasher) → ℕ → ℕ
count_by near far l = slice_index near l + far_count far l

-- how often a literal stands in stored clauses
abbrev pub lit_count : LitCounts → ℕ → ℕ
lit_count c = count_by c.near.items c.far
