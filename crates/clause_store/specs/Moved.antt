-- Clauses whose literals move to another buffer, where they are one after the other.
use Rattle.std.specs.Prelude.{ℕ, ◌+◌, List, [], ◌∷◌}
use Rattle.std.specs.List.{flat_map}
use Rattle.std.specs.HashMap.{values}
use Rattle.clause_store.specs.declared.clauses.Clause.{Clause}
use Rattle.clause_store.specs.Buckets.{Buckets, clauses_of}
use Rattle.clause_store.specs.Lits.{buffer_used, in_buffer, moved_to}

-- the literals that the clauses have in the buffer
abbrev pub all_in_buffer : List ℕ → List Clause → List ℕ
all_in_buffer buffer cs = flat_map (λ c. in_buffer buffer c.lits) cs

-- how many these are
abbrev pub all_used : List Clause → ℕ
all_used [] = 0
all_used (c ∷ cs) = buffer_used c.lits + all_used cs

-- the clauses, where these literals are from `at` on
abbrev pub all_moved_to : ℕ → List Clause → List Clause
all_moved_to at [] = []
all_moved_to at (c ∷ cs) =
    record c { lits = moved_to at c.lits } ∷ all_moved_to (at + buffer_used c.lits) cs

-- the clauses of all buckets, in the order in which these are walked
abbrev pub walked : Buckets → List Clause
walked m = flat_map clauses_of (values m)
