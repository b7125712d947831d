-- Looking a clause up among the stored ones.
use Rattle.std.specs.Prelude.{ℕ, false, if◌then◌else◌, List, Option, Some, None}
use Rattle.checker_rules.specs.State.{Stored}
use Rattle.checker_rules.specs.Store.{count_of, id_among, is_stored}

-- the id of the clause and the number of its irredundant copies, where it is stored
abbrev pub found_in : List ℕ → List Stored → Option (ℕ × ℕ)
found_in c es = if is_stored c es then Some (id_among c es, count_of false c es) else None
