-- The solver's names of variables.
use Rattle.std.specs.Prelude.{◌≡◌, ◌<◌, ℕ, nat_eq, List, Option, slice_index}
use Rattle.std.specs.HashMap.{HashMap, get}
use Rattle.std.specs.declared.hash.BuildHasherDefault.{BuildHasherDefault}
use Rattle.std.specs.declared.hash.FoldHasher.{FoldHasher}
use Rattle.sat_formula.specs.declared.lit.Var.{Var}
use Rattle.sat_formula.specs.Vars.{index_of, indexes_of}
use Rattle.sat_rules.specs.Clauses.{var_of}

-- the applied name of a variable, by indexes
abbrev pub names_of : HashMap ℕ Var (BuildHasherDefault FoldHasher) → ℕ → Option ℕ
names_of m v = indexes_of (get nat_eq m v)

-- a name or a removal, by indexes
abbrev pub indexes : Var × Option Var → ℕ × Option ℕ
indexes p = (index_of p.0, indexes_of p.1)

-- two ways to name variables agree on those of the literals that are counted
abbrev pub AgreeOnHeld : List ℕ → (ℕ → Option ℕ) → (ℕ → Option ℕ) → Type 0
AgreeOnHeld counts f g = (l : ℕ) → 0 < slice_index counts l → f (var_of l) ≡ g (var_of l)
