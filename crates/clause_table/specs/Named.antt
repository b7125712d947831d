-- The clauses under their ids, near and far.
--     far_clause m i      the clause of a far id, where it is there
--     near_or near far      the first, where it is there, else the second
--     clause_of x i      the clause of an id, where it is there
--     stored_clauses x      how many were stored so far
--     TakesLittle x      the buffer of literals has little that belongs to no clause
use Rattle.std.specs.Prelude.{ℕ, nat_eq, List, Option, Some, None, Vec}
use Rattle.std.specs.Global.{Global}
use Rattle.std.specs.Option.{option_map}
use Rattle.std.specs.HashMap.{HashMap, get}
use Rattle.std.specs.declared.hash.BuildHasherDefault.{BuildHasherDefault}
use Rattle.std.specs.declared.hash.FoldHasher.{FoldHasher}
use Rattle.clause_table.specs.Near.{IsTight, near_clause}
use Rattle.clause_table.specs.declared.named.NamedClauses.{NamedClauses}

-- the clause of an id among the others
abbrev pub far_clause : HashMap ℕ (Vec ℕ Global) (BuildHasherDefault FoldHasher) → ℕ →
    Option (List ℕ)
far_clause m i = option_map (λ c. c.items) (get nat_eq m i)

-- the first, where it is there, else the second
abbrev pub near_or : Option (List ℕ) → Option (List ℕ) → Option (List ℕ)
near_or None far = far
near_or (Some c) far = Some c

-- the clause of an id, where it is there
abbrev pub clause_of : NamedClauses → ℕ → Option (List ℕ)
clause_of x i = near_or (near_clause x.near i) (far_clause x.far i)

-- how many were stored so far
abbrev pub stored_clauses : NamedClauses → ℕ
stored_clauses x = x.stored

-- the buffer of literals has at most a third more than the clauses take, each its literals and its length, or at most one more for each place of an id
abbrev pub TakesLittle : NamedClauses → Type 0
TakesLittle x = IsTight x.near
