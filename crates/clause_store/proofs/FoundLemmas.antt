-- A clause at its place in a list of stored ones.
use Rattle.std.proofs.Common.{◌≡◌, ℕ, List, [], ◌∷◌, refl, zero, suc, ◌<◌, Bool, true, false, cond, not, ◌++◌, length, get_or, take, drop, set, map, None, arith}
use Rattle.std.specs.Str.{bytes_eq}
use Rattle.std.proofs.lemmas.Bool.{and_parts, or_parts}
use Rattle.std.specs.List.{list_all}
use Rattle.checker_rules.specs.Canonical.{same_list}
use Rattle.checker_rules.specs.Buckets.{remaining}
use Rattle.checker_rules.specs.State.{Stored}
use Rattle.checker_rules.specs.Store.{count_of, id_among, is_gone, is_stored, lower, raise}
use Rattle.checker_rules.specs.WellFormed.{are_apart}
use Rattle.checker_rules.proofs.Sets.{same_list-eq}
use Rattle.clause_store.specs.Found.{found_in}
use Rattle.clause_store.specs.Store.{is_whole}

-- `==` on slices
pub same_list-bytes_eq : (xs ys : List ℕ) → bytes_eq xs ys ≡ same_list xs ys
same_list-bytes_eq [] [] = refl
same_list-bytes_eq [] (y ∷ ys) = refl
same_list-bytes_eq (x ∷ xs) [] = refl
same_list-bytes_eq (x ∷ xs) (y ∷ ys) = cc (same_list-bytes_eq xs ys)

raise-other : (r : Bool) (c : List ℕ) (e : Stored) → same_list e.lits c ≡ false → raise r c e ≡ e
raise-other r c e n = cc

module _ (c : List ℕ) where
  -- a clause that is not stored
  pub count_of-absent : (r : Bool) (es : List Stored) → is_stored c es ≡ false → count_of r c es ≡ 0
  count_of-absent r [] h = refl
  count_of-absent r (e ∷ es) h = let p = or_parts (same_list e.lits c) (is_stored c es) h in
      cc (p.0, count_of-absent r es p.1)

  pub found_in-absent : (es : List Stored) → is_stored c es ≡ false → found_in c es ≡ None
  found_in-absent es h = cc

  -- the clause e is at i, and none of these literals before it
  module _ (e : Stored) (same : same_list e.lits c ≡ true) where
    pub is_stored-at : (es : List Stored) (i : ℕ) → i < length es → e ≡ get_or es i e → is_stored c es ≡ true
    is_stored-at [] i w h = absurd (omega arith)
    is_stored-at (x ∷ es) zero w h = cc
    is_stored-at (x ∷ es) (suc i) w h = grind (arith, is_stored-at es i (omega (arith, w)) h)

    -- of clauses that are apart none comes before it
    pub before-at : (es : List Stored) (i : ℕ) → i < length es → e ≡ get_or es i e → are_apart es ≡ true → (k : ℕ) → k < i → same_list (get_or es k e).lits c ≡ false
    before-at [] i w h a k l = absurd (omega arith)
    before-at (x ∷ es) zero w h a k l = absurd (omega arith)
    before-at (x ∷ es) (suc i) w h a zero l = grind (arith, is_stored-at es i (omega (arith, w)) h, same_list-eq x.lits c)
    before-at (x ∷ es) (suc i) w h a (suc k) l =
        before-at es i (omega (arith, w)) h (and_parts (not (is_stored x.lits es)) (are_apart es) a).1 k (omega (arith, l))

    pub id_among-at : (es : List Stored) (i : ℕ) → i < length es → e ≡ get_or es i e → ((k : ℕ) → k < i → same_list (get_or es k e).lits c ≡ false) → id_among c es ≡ e.id
    id_among-at [] i w h before = absurd (omega arith)
    id_among-at (x ∷ es) zero w h before = cc
    id_among-at (x ∷ es) (suc i) w h before =
        cc (before 0 (omega arith), id_among-at es i (omega (arith, w)) h (λ k l. before (suc k) (omega (arith, l))))

    pub count_of-at : (r : Bool) (es : List Stored) (i : ℕ) → i < length es → e ≡ get_or es i e →
        ((k : ℕ) → k < i → same_list (get_or es k e).lits c ≡ false) → count_of r c es ≡ cond r e.redundant e.irredundant
    count_of-at r [] i w h before = absurd (omega arith)
    count_of-at r (x ∷ es) zero w h before =
        cc
    count_of-at r (x ∷ es) (suc i) w h before =
        cc (before 0 (omega arith), count_of-at r es i (omega (arith, w)) h (λ k l. before (suc k) (omega (arith, l))))

-- a change of the entries of the list alone
module _ (c : List ℕ) (f : Stored → Stored) (other : (e : Stored) → same_list e.lits c ≡ false → f e ≡ e) where
  change-absent : (es : List Stored) → is_stored c es ≡ false → map f es ≡ es
  change-absent [] h = refl
  change-absent (e ∷ es) h = let p = or_parts _ _ h in cc (other e p.0, change-absent es p.1)

  change-at : (e : Stored) → same_list e.lits c ≡ true → (es : List Stored) (i : ℕ) → i < length es → e ≡ get_or es i e →
      ((k : ℕ) → k < i → same_list (get_or es k e).lits c ≡ false) → are_apart es ≡ true → map f es ≡ set es i (f e)
  change-at e same [] i w h before a = absurd (omega arith)
  change-at e same (x ∷ es) zero w h before a =
      grind (arith, same_list-eq e.lits c same, change-absent es)
  change-at e same (x ∷ es) (suc i) w h before a =
      cc (other x (before 0 (omega arith)), change-at e same es i (omega (arith, w)) h (λ k l. before (suc k) (omega (arith, l))) (and_parts (not (is_stored x.lits es)) (are_apart es) a).1)

pub lower-other : (r : Bool) (c : List ℕ) (e : Stored) → same_list e.lits c ≡ false → lower r c e ≡ e
lower-other r c e n = cc

pub raise-absent : (c : List ℕ) (r : Bool) (es : List Stored) → is_stored c es ≡ false → map (raise r c) es ≡ es
raise-absent c r = change-absent c _ (raise-other r c)

pub lower-absent : (c : List ℕ) (r : Bool) (es : List Stored) → is_stored c es ≡ false → map (lower r c) es ≡ es
lower-absent c r = change-absent c _ (lower-other r c)

pub raise-at : (c : List ℕ) (e : Stored) → same_list e.lits c ≡ true → (r : Bool) (es : List Stored) (i : ℕ) → i < length es →
    e ≡ get_or es i e → ((k : ℕ) → k < i → same_list (get_or es k e).lits c ≡ false) → are_apart es ≡ true →
    map (raise r c) es ≡ set es i (raise r c e)
raise-at c e same r = change-at c _ (raise-other r c) e same

pub lower-at : (c : List ℕ) (e : Stored) → same_list e.lits c ≡ true → (r : Bool) (es : List Stored) (i : ℕ) → i < length es →
    e ≡ get_or es i e → ((k : ℕ) → k < i → same_list (get_or es k e).lits c ≡ false) → are_apart es ≡ true →
    map (lower r c) es ≡ set es i (lower r c e)
lower-at c e same r = change-at c _ (lower-other r c) e same

-- the entries that are left
pub remaining-whole : (es : List Stored) → list_all is_whole es ≡ true → remaining es ≡ es
remaining-whole [] h = refl
remaining-whole (e ∷ es) h = grind (arith, remaining-whole es)

pub remaining-set : (x : Stored) (es : List Stored) (i : ℕ) → is_gone x ≡ false → list_all is_whole es ≡ true → remaining (set es i x) ≡ set es i x
remaining-set x [] i g h = refl
remaining-set x (e ∷ es) zero g h = cc (remaining-whole es (and_parts (is_whole e) (list_all is_whole es) h).1)
remaining-set x (e ∷ es) (suc i) g h = grind (arith, remaining-set x es i g)

pub remaining-gone : (x : Stored) (es : List Stored) (i : ℕ) → i < length es → is_gone x ≡ true → list_all is_whole es ≡ true → remaining (set es i x) ≡ take i es ++ drop (suc i) es
remaining-gone x [] i w g h = absurd (omega arith)
remaining-gone x (e ∷ es) zero w g h = cc (remaining-whole es (and_parts (is_whole e) (list_all is_whole es) h).1)
remaining-gone x (e ∷ es) (suc i) w g h = grind (arith, remaining-gone x es i (omega (arith, w)) g)
