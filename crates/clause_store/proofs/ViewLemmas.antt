-- The list by rising ids is the one list that the buckets hold.
use Rattle.std.proofs.Common.{◌≡◌, ℕ, zero, suc, ◌<◌, ◌≤◌, ◌⊎◌, Bool, true, eqb, leb, List, [], ◌∷◌, ◌++◌, length, nat_eq, slice_index_or, refl, sym, subst, arith, inl}
use Rattle.std.proofs.Common.{inr, ⊎_elim}
use Rattle.std.specs.List.{filter, flat_map}
use Rattle.std.specs.Option.{IsSome}
use Rattle.std.specs.HashMap.{get, keys}
use Rattle.std.proofs.lemmas.Bool.{and_parts}
use Rattle.std.proofs.lemmas.Cmp.{nat_eq_equiv}
use Rattle.std.proofs.lemmas.Map.Views.{hash_map_contains_key_iff, exact_unsigned_eq}
use Rattle.std.proofs.lemmas.Bool.Decides.{nat_tests}
use Rattle.checker_rules.specs.State.{Stored}
use Rattle.checker_rules.specs.Buckets.{of_hash}
use Rattle.checker_rules.specs.WellFormed.{ids_rise}
use Rattle.clause_store.specs.Buckets.{Buckets}
use Rattle.clause_store.specs.View.{stored_in, put_by_id, by_id, list_of}

abbrev pub In : Stored → List Stored → Type 0
In x [] = ⊥
In x (y ∷ ys) = (x ≡ y) ⊎ In x ys

-- ids rise from low on
abbrev pub Above : ℕ → List Stored → Type 0
Above low [] = Unit {0}
Above low (e ∷ es) = (low ≤ e.id) × Above (suc e.id) es

pub above_from : (low next : ℕ) (es : List Stored) → ids_rise low es next ≡ true → Above low es
above_from low next [] h = tt
above_from low next (e ∷ es) h =
    let p = and_parts (leb low e.id) (ids_rise (suc e.id) es next) h in (grind (arith, p.0), above_from (suc e.id) next es p.1)

in_above : (low : ℕ) (x : Stored) (es : List Stored) → Above low es → In x es → low ≤ x.id
in_above low x [] h i = absurd i
in_above low x (e ∷ es) h i = grind (arith, in_above (suc e.id) x es h.1)

in_put : (x y : Stored) (ys : List Stored) → In x (put_by_id y ys) → (x ≡ y) ⊎ In x ys
in_put x y [] i = i
in_put x y (z ∷ zs) i = grind (arith, in_put x y zs)

in_by_id : (x : Stored) (xs : List Stored) → In x (by_id xs) → In x xs
in_by_id x [] i = i
in_by_id x (y ∷ ys) i = ⊎_elim (λ e. inl e) (λ j. inr (in_by_id x ys j)) (in_put x y _ i)

above_put : (low : ℕ) (y : Stored) (ys : List Stored) → Above low ys → low ≤ y.id → Above low (put_by_id y ys)
above_put low y [] h le = (le, tt)
above_put low y (z ∷ zs) h le = grind (arith, nat_tests, above_put (suc z.id) y zs h.1)

above_by_id : (xs : List Stored) → Above 0 (by_id xs)
above_by_id [] = tt
above_by_id (y ∷ ys) = above_put 0 y _ (above_by_id ys) (omega arith)

put_keeps : (x y : Stored) (ys : List Stored) → In x ys → In x (put_by_id y ys)
put_keeps x y [] i = absurd i
put_keeps x y (z ∷ zs) i = grind (arith, put_keeps x y zs)

put_has : (y : Stored) (ys : List Stored) → ((z : Stored) → In z ys → y.id ≡ z.id → y ≡ z) → In y (put_by_id y ys)
put_has y [] f = inl refl
put_has y (z ∷ zs) f = grind (arith, nat_tests, put_has y zs (λ w i. f w (inr i)), f z (inl refl))

by_id_has : (x : Stored) (xs : List Stored) → ((y z : Stored) → In y xs → In z xs → y.id ≡ z.id → y ≡ z) → In x xs → In x (by_id xs)
by_id_has x [] f i = absurd i
by_id_has x (y ∷ ys) f (inl e) = rw e (put_has y (by_id ys) (λ z i. f y z (inl refl) (inr (in_by_id z ys i))))
by_id_has x (y ∷ ys) f (inr i) = put_keeps x y _ (by_id_has x ys (λ v w j k. f v w (inr j) (inr k)) i)

-- of two lists with rising ids and the same members
same_head : (x y : Stored) (xs ys : List Stored) → Above (suc x.id) xs → Above (suc y.id) ys → In x (y ∷ ys) → In y (x ∷ xs) → x ≡ y
same_head x y xs ys a b i j = grind (arith, in_above (suc y.id) x ys b, in_above (suc x.id) y xs a)

later : (x y z : Stored) (xs ys : List Stored) → x ≡ y → Above (suc x.id) xs → In z xs → In z (y ∷ ys) → In z ys
later x y z xs ys e a i j = grind (arith, in_above (suc x.id) z xs a i)

pub same_members : (low k : ℕ) (xs ys : List Stored) → Above low xs → Above k ys → ((x : Stored) → In x xs → In x ys) → ((x : Stored) → In x ys → In x xs) → xs ≡ ys
same_members low k [] [] a b f g = refl
same_members low k [] (y ∷ ys) a b f g = absurd (g y (inl refl))
same_members low k (x ∷ xs) [] a b f g = absurd (f x (inl refl))
same_members low k (x ∷ xs) (y ∷ ys) a b f g =
    let e = same_head x y xs ys a.1 b.1 (f x (inl refl)) (g y (inl refl)) in
    let t = same_members _ _ xs ys a.1 b.1 (λ z i. later x y z xs ys e a.1 i (f z (inr i))) (λ z i. later y x z ys xs (sym e) b.1 i (g z (inr i))) in
    cc

in_left : (x : Stored) (xs ys : List Stored) → In x xs → In x (xs ++ ys)
in_left x [] ys i = absurd i
in_left x (z ∷ xs) ys i = grind (arith, in_left x xs ys)

in_right : (x : Stored) (xs ys : List Stored) → In x ys → In x (xs ++ ys)
in_right x [] ys i = i
in_right x (z ∷ xs) ys i = inr (in_right x xs ys i)

in_either : (x : Stored) (xs ys : List Stored) → In x (xs ++ ys) → In x xs ⊎ In x ys
in_either x [] ys i = inr i
in_either x (z ∷ xs) ys i = grind (arith, in_either x xs ys)

in_some : (f : ℕ → List Stored) (x : Stored) (ks : List ℕ) → In x (flat_map f ks) → (k : ℕ) × In x (f k)
in_some f x [] i = absurd i
in_some f x (k ∷ ks) i = ⊎_elim (λ j. (k, j)) (λ j. in_some f x ks j) (in_either x _ _ i)

in_all : (f : ℕ → List Stored) (x : Stored) (k : ℕ) (ks : List ℕ) (i : ℕ) → i < length ks → slice_index_or ks i k ≡ k → In x (f k) → In x (flat_map f ks)
in_all f x k [] i less at h = absurd (omega (arith, less))
in_all f x k (l ∷ ks) zero less at h = in_left x (f l) (flat_map f ks) (subst (λ m. In x (f m)) (sym at) h)
in_all f x k (l ∷ ks) (suc i) less at h = in_right x (f l) (flat_map f ks) (in_all f x k ks i (omega (arith, less)) at h)

pub in_filter : (p : Stored → Bool) (x : Stored) (es : List Stored) → p x ≡ true → In x es → In x (filter p es)
in_filter p x [] h i = absurd i
in_filter p x (e ∷ es) h i = grind (arith, in_filter p x es h)

filter_in : (p : Stored → Bool) (x : Stored) (es : List Stored) → In x (filter p es) → In x es
filter_in p x [] i = i
filter_in p x (e ∷ es) i = grind (arith, filter_in p x es)

same_id : (low : ℕ) (es : List Stored) (y z : Stored) → Above low es → In y es → In z es → y.id ≡ z.id → y ≡ z
same_id low [] y z a i j same = absurd i
same_id low (e ∷ es) y z a i j same = grind (arith, in_above (suc e.id) z es a.1, in_above (suc e.id) y es a.1, same_id (suc e.id) es y z a.1)

pub some_here : (buffer : List ℕ) (m : Buckets) (k : ℕ) (x : Stored) → In x (stored_in buffer m k) → IsSome (get nat_eq m k)
some_here buffer m k x i = grind arith

-- a list with rising ids whose clauses the buckets hold by their hashes is the list of the map
pub list_is : (buffer : List ℕ) (m : Buckets) (h : List ℕ → ℕ) (es : List Stored) → Above 0 es → ((k : ℕ) → stored_in buffer m k ≡ of_hash h k es) → list_of buffer m ≡ es
unfolding list_of
list_is buffer m h es a tied =
    let all = flat_map (stored_in buffer m) (keys m) in
    let from : (x : Stored) → In x all → In x es = λ x i. let s = in_some (stored_in buffer m) x (keys m) i in
    filter_in (λ e. eqb (h e.lits) s.0) x es (rw (← tied s.0) s.1) in
    let to : (x : Stored) → In x es → In x all = λ x i.
    let here : In x (stored_in buffer m (h x.lits)) = rw (tied (h x.lits)) (in_filter (λ e. eqb (h e.lits) (h x.lits)) x es (grind arith) i) in
    let at = (hash_map_contains_key_iff nat_eq_equiv exact_unsigned_eq m _).0 (some_here _ m _ x here) in
    in_all _ x _ _ _ at.1 at.2 here in
    same_members 0 0 _ es (above_by_id all) a (λ x i. from x (in_by_id x all i))
    (λ x i. by_id_has x all (λ y z p q. same_id 0 es y z a (from y p) (from z q)) (to x i))
