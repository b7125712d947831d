-- The stored clauses, each with its id, the newest first.
--     find st i      the clause under an id
--     clauses_of st      the clauses alone
--     without_ids is st      the entries whose ids are not listed
--     numbered n cs, formula_store cs      the clauses of a formula under the ids n, n + 1, ..;  from 1
use Rattle.std.specs.Prelude.{ℕ, suc, ◌==◌, if◌then◌else◌, not, List, [], ◌∷◌, map, filter, Option, Some, None}
use Rattle.sat_rules.specs.Clauses.{has}
use Rattle.sat_rules.specs.Named.{Item}

-- the clause under an id, where there is one
abbrev pub find : List Item → ℕ → Option (List ℕ)
find [] i = None
find (x ∷ st) i = if i == x.id then Some x.lits else find st i

-- the clauses alone
abbrev pub clauses_of : List Item → List (List ℕ)
clauses_of st = map (λ x. x.lits) st

-- the entries whose ids are not listed
abbrev pub without_ids : List ℕ → List Item → List Item
without_ids is st = filter (λ x. not (has x.id is)) st

-- clauses under rising ids, the first under n
abbrev pub numbered : ℕ → List (List ℕ) → List Item
numbered n [] = []
numbered n (c ∷ cs) = record { id = n; lits = c } ∷ numbered (suc n) cs

-- a formula's clauses have the ids 1, 2, ..
abbrev pub formula_store : List (List ℕ) → List Item
formula_store cs = numbered 1 cs
