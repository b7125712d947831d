-- Variables by their indexes and literals by their codes.
use Rattle.std.specs.Prelude.{◌≡◌, ℕ, ℤ, pos, negsuc, ◌+◌, ◌-◌, ◌*◌, Bool, ◌%◌, Option, Some, None, if◌then◌else◌}
use Rattle.sat_rules.specs.Clauses.{is_negative, var_of}
use Rattle.sat_formula.specs.declared.lit.Var.{Var}

-- the index of a variable
abbrev pub index_of : Var → ℕ
index_of v = v.index

-- the index of the variable, if there is one
abbrev pub indexes_of : Option Var → Option ℕ
indexes_of None = None
indexes_of (Some v) = Some v.index

-- the DIMACS number of the variable of an index
abbrev pub dimacs_var : ℕ → ℤ
dimacs_var index = pos (index + 1)

-- the DIMACS number of the literal of a code; `negsuc n` is the number -(n + 1)
abbrev pub dimacs_lit : ℕ → ℤ
dimacs_lit code = if is_negative code then negsuc (var_of code) else pos (var_of code + 1)

-- the code of the literal of a number from 1 on, negative or not
abbrev pub lit_code : ℕ → Bool → ℕ
lit_code value negative = 2 * (value - 1) + (if negative then 1 else 0)

-- a literal's variable is replaced by one that `post` allows, and its sign stays
pub record IsMapped (post : Var → Var → Type 0) (lit result : ℕ) : Type 0 where
  pub from : Var
  pub to : Var
  pub of_lit : index_of from ≡ var_of lit
  pub mapped : post from to
  pub is : result ≡ 2 * index_of to + lit % 2
