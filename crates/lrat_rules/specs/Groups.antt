-- The groups of a line, which show that a clause is redundant by its first literal, the pivot: with every stored clause that holds the pivot's negation it is resolved, and what comes out follows.
--     Group      the id of a stored clause, and the hints for it
--     without n c      the rest of a clause that is resolved
--     rest_met f s rest o      what the hints of a group must show
--     all_met st s c gs      every candidate, a stored clause with the pivot's negation, passes with its group
use Rattle.std.specs.Prelude.{ℕ, Bool, false, not, ◌||◌, ◌==◌, if◌then◌else◌, List, [], ◌∷◌, filter, Option, Some, None}
use Rattle.std.specs.List.{list_any, list_all}
use Rattle.sat_rules.specs.Clauses.{has, negate}
use Rattle.sat_rules.specs.Named.{Item, negated_set}
use Rattle.lrat_rules.specs.Propagation.{is_conflict, propagate}
use Rattle.lrat_rules.specs.Stores.{find}

-- the id of a stored clause, and the hints for it
pub record Group : Type 0 where
  pub id : ℕ
  pub hints : List ℕ

-- the hints of the first group of an id
abbrev pub group_for : ℕ → List Group → Option (List ℕ)
group_for d [] = None
group_for d (g ∷ gs) = if d == g.id then Some g.hints else group_for d gs

-- the clause without one literal
abbrev pub without : ℕ → List ℕ → List ℕ
without n c = filter (λ m. not (m == n)) c

-- the set with the negations of the literals of a clause
abbrev pub add_negated : List ℕ → (ℕ → Bool) → ℕ → Bool
add_negated c s m = negated_set c m || s m

-- a literal of the rest is true, or with all of them false the hints lead to a conflict
abbrev pub rest_met : (ℕ → Option (List ℕ)) → (ℕ → Bool) → List ℕ → Option (List ℕ) → Bool
rest_met f s rest None = false
rest_met f s rest (Some is) = list_any s rest || is_conflict (propagate f (add_negated rest s) is)

-- a stored clause without n needs nothing, one with n its group
abbrev pub is_met : List Item → (ℕ → Bool) → ℕ → List Group → Item → Bool
is_met st s n gs x = not (has n x.lits) || rest_met (find st) s (without n x.lits)
    (group_for x.id gs)

-- every candidate, a stored clause with the negation of the pivot, passes;  the empty clause has no pivot
abbrev pub all_met : List Item → (ℕ → Bool) → List ℕ → List Group → Bool
all_met st s [] gs = false
all_met st s (p ∷ ps) gs = list_all (is_met st s (negate p) gs) st
