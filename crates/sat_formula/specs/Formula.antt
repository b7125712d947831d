-- A formula: the list of its clauses, each a list of codes.
use Rattle.std.specs.Prelude.{◌≡◌, ℕ, ◌+◌, max, List, [], ◌∷◌, length, take, drop, sum, fold}
use Rattle.sat_rules.specs.Clauses.{var_of}

-- literals in one row, cut into pieces of these lengths
abbrev pub cut : List ℕ → List ℕ → List (List ℕ)
cut [] lits = []
cut (len ∷ lengths) lits = take len lits ∷ cut lengths (drop len lits)

-- how many variables there are beside those counted: enough for each literal's
abbrev pub vars_with : ℕ → List ℕ → ℕ
vars_with count [] = count
vars_with count (lit ∷ lits) = vars_with (max count (var_of lit + 1)) lits

-- the largest index of a variable and 1, or 0 where there is no literal
abbrev pub var_count_of : List (List ℕ) → ℕ
var_count_of clauses = fold vars_with 0 clauses

-- the lengths are those of all the literals together, and the variables are counted
pub record IsWhole (lengths lits : List ℕ) (var_count : ℕ) : Type 0 where
  pub total : sum lengths ≡ length lits
  pub vars : var_count ≡ var_count_of (cut lengths lits)
