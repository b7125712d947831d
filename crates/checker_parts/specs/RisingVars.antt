-- Lists whose variables rise.
use Rattle.std.specs.Prelude.{ℕ, Bool, true, ◌&&◌, nat_lt, List, [], ◌∷◌}
use Rattle.sat_rules.specs.Clauses.{var_of}

-- whether the variables rise from literal to literal
abbrev pub has_rising_vars : List ℕ → Bool
has_rising_vars [] = true
has_rising_vars (l ∷ []) = true
has_rising_vars (l ∷ m ∷ ms) = nat_lt (var_of l) (var_of m) && has_rising_vars (m ∷ ms)
