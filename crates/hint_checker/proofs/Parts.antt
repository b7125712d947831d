-- The ids of hints, after some of them were collected.
use Rattle.std.proofs.Common.{ℕ, List, ◌++◌, Option, Some, None}

-- ids, after these
abbrev pub ids_after : List ℕ → Option (List ℕ) → Option (List ℕ)
ids_after ids None = None
ids_after ids (Some others) = Some (ids ++ others)
