-- Subsets as the code asks for them.
use Rattle.std.specs.Prelude.{ℕ, Bool, List, if◌then◌else◌}
use Rattle.checker_rules.specs.Canonical.{is_strict_subset, is_subset}

-- a proper subset where `strict` is true, else a subset
abbrev pub is_subset_by : Bool → List ℕ → List ℕ → Bool
is_subset_by strict c d = if strict then is_strict_subset c d else is_subset c d
