-- Clauses under ids, and what a list of ids says of a clause.
--     Item      an id with its clause
--     Machine      the ids that name clauses, and a number above every id put
--     put_id, drop_id      an id put, an id removed
--     negated_set c      the negations of a clause's literals
--     NamedBy, IsAdmitted      the ids of a list name clauses that are a chain under the negated clause
use Rattle.std.specs.Prelude.{◌≡◌, ℕ, suc, Bool, if◌then◌else◌, ◌==◌, List, [], ◌∷◌, Option, Some, None}
use Rattle.std.specs.List.{list_any}
use Rattle.sat_rules.specs.Clauses.{IsChain, negate}

-- an id with its clause
pub record Item : Type 0 where
  pub id : ℕ
  pub lits : List ℕ

-- the clause under each id, and a number above every id put
pub record Machine : Type 0 where
  pub named : ℕ → Option (List ℕ)
  pub above : ℕ

-- a clause put under an id
abbrev pub put_id : ℕ → List ℕ → Machine → Machine
put_id i c m = record { named = λ k. if k == i then Some c else m.named k; above = suc i }

-- an id removed
abbrev pub drop_id : ℕ → Machine → Machine
drop_id i m = record { named = λ k. if k == i then None else m.named k; above = m.above }

-- the negations of the literals of a clause, as a set
abbrev pub negated_set : List ℕ → ℕ → Bool
negated_set c m = list_any (λ l. m == negate l) c

-- the ids of the list name these clauses
abbrev pub NamedBy : (ℕ → Option (List ℕ)) → List ℕ → List (List ℕ) → Type 0
NamedBy f [] [] = Unit {0}
NamedBy f [] (c ∷ cs) = ⊥
NamedBy f (i ∷ ids) [] = ⊥
NamedBy f (i ∷ ids) (c ∷ cs) = (f i ≡ Some c) × NamedBy f ids cs

-- the ids name clauses that are a chain under the negated clause
abbrev pub IsAdmitted : (ℕ → Option (List ℕ)) → List ℕ → List ℕ → Type 0
IsAdmitted f c ids = (cs : List (List ℕ)) × NamedBy f ids cs × IsChain (negated_set c) cs
