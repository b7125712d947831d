-- Marks of literals, by places and by a set.
use Rattle.std.proofs.Common.{◌≡◌, ℕ, ◌-◌, ◌<◌, ◌≤◌, Bool, true, false, cond, not, ◌&&◌, ◌||◌, eqb, List, [], ◌++◌, length, replicate, get_or, set, take, nat_eq, ap, ◌∙◌, arith}
use Rattle.std.specs.List.{list_any}
use Rattle.std.specs.HashSet.{HashSet, contains}
use Rattle.std.specs.declared.hash.BuildHasherDefault.{BuildHasherDefault}
use Rattle.std.specs.declared.hash.FoldHasher.{FoldHasher}
use Rattle.std.proofs.lemmas.Bool.{cases_lt}
use Rattle.std.proofs.lemmas.Grind.{common_steps, get_or-set_at}
use Rattle.std.proofs.lemmas.List.{nil_from_length, get_or-set_other, get_or_default, get_or_past, take_all}
use Rattle.clause_table.specs.Marks.{mark_of}

abbrev Far : Type 0
Far = HashSet ℕ (BuildHasherDefault FoldHasher)

-- a place beyond the others is that of the set
pub mark-past : (near : List Bool) (far : Far) (l : ℕ) → length near ≤ l → mark_of near far l ≡ contains nat_eq far l
unfolding mark_of
mark-past near far l w = get_or_past near l (contains nat_eq far l) w

-- a place
pub mark-at : (near : List Bool) (far : Far) (l : ℕ) → l < length near → mark_of near far l ≡ get_or near l false
unfolding mark_of
mark-at near far l w = get_or_default near l (contains nat_eq far l) false w

-- a mark at a place is set, or cleared
pub mark-set : (near : List Bool) (far : Far) (k : ℕ) → k < length near → (l : ℕ) → mark_of (set near k true) far l ≡ (eqb l k || mark_of near far l)
unfolding mark_of
mark-set near far k w l = grind (arith, get_or-set_at, get_or-set_other)

pub mark-unset : (near : List Bool) (far : Far) (k : ℕ) → k < length near → (l : ℕ) → mark_of (set near k false) far l ≡ (not (eqb l k) && mark_of near far l)
unfolding mark_of
mark-unset near far k w l = grind (arith, get_or-set_at, get_or-set_other)

-- a mark in the set is set, or cleared
pub mark-added : (near : List Bool) (far more : Far) (k : ℕ) → length near ≤ k → ((l : ℕ) → contains nat_eq more l ≡ cond (nat_eq k l) true (contains nat_eq far l)) →
    (l : ℕ) → mark_of near more l ≡ (eqb l k || mark_of near far l)
unfolding mark_of
mark-added near far more k w added l = grind (arith, get_or_past, added l)

pub mark-removed : (near : List Bool) (far fewer : Far) (k : ℕ) → length near ≤ k → ((l : ℕ) → contains nat_eq fewer l ≡ cond (nat_eq k l) false (contains nat_eq far l)) →
    (l : ℕ) → mark_of near fewer l ≡ (not (eqb l k) && mark_of near far l)
unfolding mark_of
mark-removed near far fewer k w removed l = grind (arith, get_or_past, removed l)

-- sets of the same keys mark the same
pub mark-same : (near : List Bool) (far same : Far) → same.keys ≡ far.keys → (l : ℕ) → mark_of near same l ≡ mark_of near far l
unfolding mark_of
mark-same near far same e l = ap (λ ks. get_or near l (list_any (nat_eq l) ks)) e

-- nothing is marked at first
pub mark-none : (near : List Bool) (far : Far) → near ≡ [] → far.keys ≡ [] → (l : ℕ) → mark_of near far l ≡ false
unfolding mark_of
mark-none near far e f l = ap (λ xs. get_or xs l (contains nat_eq far l)) e ∙ ap (list_any (nat_eq l)) f

-- ---- more places, where the set is empty

-- an empty set marks nothing
pub none-contains : (far : Far) → length far.keys ≡ 0 → (l : ℕ) → contains nat_eq far l ≡ false
none-contains far e l = ap (list_any (nat_eq l)) (nil_from_length far.keys e)

more_places : (near : List Bool) (n l : ℕ) → get_or (near ++ replicate n false) l false ≡ get_or near l false
more_places near n l = grind (arith, common_steps, cases_lt l (length near), cases_lt (l - length near) n)

-- with more places nothing else is marked, and then one is set
same_places : (near more : List Bool) (n k l : ℕ) → more ≡ take n near ++ replicate k false → length near ≤ n → get_or more l false ≡ get_or near l false
same_places near more n k l is w = rw (is, take_all n near w) (more_places near k l)

mark-more : (near more : List Bool) (far : Far) → length far.keys ≡ 0 → (l : ℕ) → get_or more l false ≡ get_or near l false → mark_of more far l ≡ mark_of near far l
unfolding mark_of
mark-more near more far none l e = grind (arith, none-contains far none l, e)

pub mark-new : (near more : List Bool) (far : Far) (n j k : ℕ) → more ≡ take n near ++ replicate j false → length near ≤ n → length far.keys ≡ 0 → k < length more →
    (l : ℕ) → mark_of (set more k true) far l ≡ (eqb l k || mark_of near far l)
mark-new near more far n j k is w none at l =
    mark-set more far k at l ∙ ap (λ b. eqb l k || b) (mark-more near more far none l (same_places near more n j l is w))
