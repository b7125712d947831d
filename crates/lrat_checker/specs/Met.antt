-- The ids whose groups were met.
--     is_met m i      the group of an id was met
use Rattle.std.specs.Prelude.{ℕ, Bool, ◌||◌, ◌==◌, nat_eq, slice_index}
use Rattle.std.specs.HashSet.{contains}
use Rattle.lrat_checker.specs.declared.met.MetIds.{MetIds}

-- the group of an id was met: the line stands at its place, or the set has it
abbrev pub is_met : MetIds → ℕ → Bool
is_met m i = (slice_index m.lines.items i == m.line) || contains nat_eq m.far i
