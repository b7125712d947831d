-- Marks of literals.
--     mark_of near far l      the mark of a literal by places and by a set
--     has_mark m l      a literal is marked
--     near_marks m      the marks at places
--     stored_count m      for this many stored literals there may be places
use Rattle.std.specs.Prelude.{ℕ, Bool, List, get_or, nat_eq}
use Rattle.std.specs.HashSet.{HashSet, contains}
use Rattle.std.specs.declared.hash.BuildHasherDefault.{BuildHasherDefault}
use Rattle.std.specs.declared.hash.FoldHasher.{FoldHasher}
use Rattle.clause_table.specs.declared.marks.Marks.{Marks}

-- the mark of a literal: at its place, where it has one, else in the set
unfoldable pub mark_of : List Bool → HashSet ℕ (BuildHasherDefault FoldHasher) → ℕ → Bool
mark_of near far l = get_or near l (contains nat_eq far l)

-- a literal is marked
abbrev pub has_mark : Marks → ℕ → Bool
has_mark m = mark_of m.near.items m.far

-- the marks of the literals that have places, by their codes
abbrev pub near_marks : Marks → List Bool
near_marks m = m.near.items

-- for this many stored literals there may be places
abbrev pub stored_count : Marks → ℕ
stored_count m = m.stored
