-- How a model meets clauses.
--     true_run s ls      how many literals at the front are true
--     are_members ls cs      each literal is one of the clause at its place
--     with_at n l ls      the literals with l at place n
use Rattle.std.specs.Prelude.{ℕ, suc, Bool, true, false, ◌&&◌, if◌then◌else◌, List, [], ◌∷◌, ◌++◌, drop, take}
use Rattle.sat_rules.specs.Clauses.{has}

-- how many literals at the front are true
abbrev pub true_run : (ℕ → Bool) → List ℕ → ℕ
true_run s [] = 0
true_run s (l ∷ ls) = if s l then suc (true_run s ls) else 0

-- each literal is one of the clause at its place; there may be more clauses
abbrev pub are_members : List ℕ → List (List ℕ) → Bool
are_members [] cs = true
are_members (l ∷ ls) [] = false
are_members (l ∷ ls) (c ∷ cs) = has l c && are_members ls cs

-- the literals with l at place n, or after all of them
abbrev pub with_at : ℕ → ℕ → List ℕ → List ℕ
with_at n l ls = take n ls ++ l ∷ drop (suc n) ls
