-- Models of many queries as one: each query has copies of the clauses, in which variables have
-- other names.
--     renamed r l      the literal of another variable, with its sign
--     CopiesHold      the values of the new names satisfy the clauses
use Rattle.std.specs.Prelude.{◌≡◌, ℕ, ◌+◌, ◌*◌, Bool, true, if◌then◌else◌, List, map}
use Rattle.sat_rules.specs.Clauses.{all_true, is_negative, var_of}

-- the literal of another variable, with its sign
abbrev pub renamed : (ℕ → ℕ) → ℕ → ℕ
renamed r l = if is_negative l then 2 * r (var_of l) + 1 else 2 * r (var_of l)

-- where an assignment satisfies the copies, the values of the new names satisfy the clauses
abbrev pub CopiesHold : Type 0
CopiesHold = (r : ℕ → ℕ) (a : ℕ → Bool) (cs : List (List ℕ))
    → all_true a (map (map (renamed r)) cs) ≡ true → all_true (λ x. a (r x)) cs ≡ true
