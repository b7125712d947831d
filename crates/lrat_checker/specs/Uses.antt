-- How often a literal stands in the clauses of ids.
--     uses_below f n l      in those of the ids below a number
use Rattle.std.specs.Prelude.{ℕ, zero, suc, ◌+◌, List, Option}
use Rattle.lrat_rules.specs.Counts.{count_in}

-- how often the literal stands in the clauses of the ids below n
abbrev pub uses_below : (ℕ → Option (List ℕ)) → ℕ → ℕ → ℕ
uses_below f zero l = 0
uses_below f (suc n) l = uses_below f n l + count_in l (f n)
