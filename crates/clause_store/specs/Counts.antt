-- How many stored clauses hold each literal.
--     times_held l es      the number of clauses that hold the literal
--     HoldOneMore c old new      each literal of c is held once more
--     AreCounts counts n es      the counts of all literals of the first n variables
use Rattle.std.specs.Prelude.{◌≡◌, ℕ, ◌+◌, ◌*◌, if◌then◌else◌, List, [], ◌∷◌, length, slice_index}
use Rattle.sat_rules.specs.Clauses.{has}
use Rattle.checker_rules.specs.State.{Stored}

-- the number of clauses that hold the literal
abbrev pub times_held : ℕ → List Stored → ℕ
times_held l [] = 0
times_held l (e ∷ es) = (if has l e.lits then 1 else 0) + times_held l es

-- each literal of the clause is held once more, all others as before
abbrev pub HoldOneMore : List ℕ → List ℕ → List ℕ → Type 0
HoldOneMore c counts counts' = (l : ℕ) →
    slice_index counts' l ≡ slice_index counts l + (if has l c then 1 else 0)

-- the number of clauses that hold each literal of the first n variables; none holds another one
pub record AreCounts (counts : List ℕ) (n : ℕ) (es : List Stored) : Type 0 where
  pub known : length counts ≡ 2 * n
  pub held : (l : ℕ) → slice_index counts l ≡ times_held l es
