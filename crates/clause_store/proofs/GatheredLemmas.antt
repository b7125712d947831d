-- The clauses of all buckets, sorted by their ids, are the stored list.
use Rattle.std.proofs.Common.{◌≡◌, ℕ, zero, suc, ◌<◌, Less, Bool, true, false, not, eqb, List, [], ◌∷◌, ◌++◌, length, get_or, map, refl, sym, arith, inl, inr, Some}
use Rattle.std.proofs.Common.{nat_eq, All, subst, ap}
use Rattle.std.specs.List.{AllByRecursion, Contains, IsDistinct, filter, flat_map, list_all, list_any}
use Rattle.std.specs.List.Sorted.{IsNonDecreasing, IsPermutation, IsStrictlySortedBy, IsNonDecreasingBy}
use Rattle.std.specs.Ordering.{nat_cmp}
use Rattle.std.proofs.lemmas.Bool.{and_from}
use Rattle.std.proofs.lemmas.Bool.Decides.{nat_tests}
use Rattle.std.proofs.lemmas.List.Sorted.{IsPermutation-append_right, IsPermutation-filter_both, IsPermutation-map, IsPermutation-refl, IsPermutation-sym}
use Rattle.std.proofs.lemmas.List.Sorted.{IsPermutation-trans, Contains-permutation, All-permutation}
use Rattle.std.proofs.lemmas.Map.Keys.{IsDistinct-IsPermutation, IsDistinct-cons, IsDistinct-head, IsDistinct-tail, IsStrictlyIncreasing-from_distinct}
use Rattle.std.proofs.lemmas.Map.Keys.{sorted_from_strictly_increasing, sorted_head, sorted_tail}
use Rattle.std.specs.HashMap.{IsUnique, get, keys, values}
use Rattle.std.specs.Map.{keys_of, values_of}
use Rattle.std.proofs.lemmas.Cmp.{nat_eq_equiv}
use Rattle.std.proofs.lemmas.List.{get_or-map, map-append}
use Rattle.std.proofs.lemmas.List.Elements.{All-append, All-nil}
use Rattle.std.proofs.Math.ListN.{length-map}
use Rattle.std.proofs.lemmas.Map.Entries.{hash_map_get_place}
use Rattle.std.proofs.lemmas.Map.Views.{exact_unsigned_eq, hash_map_contains_key_iff, list_any-from_Contains}
use Rattle.std.proofs.lemmas.Option.{slice_get-get_or}
use Rattle.std.proofs.Math.Path.{fun_ext}
use Rattle.checker_rules.specs.Buckets.{of_hash}
use Rattle.checker_rules.specs.State.{Stored}
use Rattle.clause_store.specs.declared.clauses.buckets.Bucket.{Bucket}
use Rattle.clause_store.specs.declared.clauses.Clause.{Clause}
use Rattle.clause_store.specs.declared.clauses.Clauses.{Clauses}
use Rattle.clause_store.specs.declared.hash.ClauseHasher.{ClauseHasher}
use Rattle.clause_store.specs.Buckets.{AreWithin, Buckets, bucket_items, clauses_of}
use Rattle.clause_store.specs.Lits.{IsWithin}
use Rattle.clause_store.specs.StateOf.{hash_of}
use Rattle.clause_store.specs.Store.{IsIndexed}
use Rattle.clause_store.specs.View.{stored_in, stored_of}
use Rattle.clause_store.proofs.ViewLemmas.{Above, In, same_members, above_from, in_filter, some_here}

-- buckets of different keys
module _ (h : List ℕ → ℕ) where
  of_hash-without : (k n : ℕ) → eqb k n ≡ false → (es : List Stored) → of_hash h n (filter (λ e. not (eqb (h e.lits) k)) es) ≡ of_hash h n es
  of_hash-without k n ne [] = refl
  of_hash-without k n ne (e ∷ es) = grind (arith, nat_tests, of_hash-without k n ne es)

  flat_map-without : (k : ℕ) (es : List Stored) (ks : List ℕ) → AllByRecursion (λ y. eqb k y ≡ false) ks →
      flat_map (λ n. of_hash h n (filter (λ e. not (eqb (h e.lits) k)) es)) ks ≡ flat_map (λ n. of_hash h n es) ks
  flat_map-without k es [] a = refl
  flat_map-without k es (n ∷ ks) a =
      cc (of_hash-without k n a.0 es, flat_map-without k es ks a.1)

  covered-without : (k : ℕ) (ks : List ℕ) (es : List Stored) → list_all (λ e. list_any (eqb (h e.lits)) (k ∷ ks)) es ≡ true →
      list_all (λ e. list_any (eqb (h e.lits)) ks) (filter (λ e. not (eqb (h e.lits) k)) es) ≡ true
  covered-without k ks [] c = refl
  covered-without k ks (e ∷ es) c = grind (arith, covered-without k ks es)

  -- the buckets of keys that differ and cover the list, one after the other
  pub covers : (ks : List ℕ) (es : List Stored) → IsDistinct eqb ks → list_all (λ e. list_any (eqb (h e.lits)) ks) es ≡ true → IsPermutation es (flat_map (λ n. of_hash h n es) ks)
  covers [] [] d c = IsPermutation-refl []
  covers [] (e ∷ es) d c = cc
  covers (k ∷ ks) es d c =
      let others = filter (λ e. not (eqb (h e.lits) k)) es in
      let rest : IsPermutation others (flat_map (λ n. of_hash h n es) ks) =
      rw (← flat_map-without k es ks (IsDistinct-head eqb k ks d)) (covers ks others (IsDistinct-tail eqb k ks d) (covered-without k ks es c)) in
      IsPermutation-trans es (of_hash h k es ++ others) _
      (IsPermutation-filter_both (λ e. eqb (h e.lits) k) (λ e. not (eqb (h e.lits) k)) (λ e. refl) es)
      (IsPermutation-append_right (of_hash h k es) others (flat_map (λ n. of_hash h n es) ks) rest)

-- what rises from low on differs from what is below
below_apart : (x low : ℕ) (es : List Stored) → x < low → Above low es → AllByRecursion (λ y. eqb x y ≡ false) (map (λ e. e.id) es)
below_apart x low [] less a = tt
below_apart x low (e ∷ es) less a = (grind (arith, nat_tests), below_apart x _ es (omega arith) a.1)

distinct_from_above : (low : ℕ) (es : List Stored) → Above low es → IsDistinct eqb (map (λ e. e.id) es)
unfolding IsDistinct
distinct_from_above low [] a = tt
distinct_from_above low (e ∷ es) a = IsDistinct-cons eqb e.id _ (below_apart e.id (suc e.id) es (omega arith) a.1) (distinct_from_above (suc e.id) es a.1)

-- and the way back
less_from : (n m : ℕ) → nat_cmp n m ≡ Less → n < m
less_from n m h = grind (arith, nat_tests)

above_from_sorted : (low : ℕ) (es : List Stored) → AllByRecursion (λ y. nat_cmp low y ≡ Less) (map (λ e. e.id) es) → IsStrictlySortedBy nat_cmp (map (λ e. e.id) es) → Above (suc low) es
above_from_sorted low [] a s = tt
above_from_sorted low (e ∷ es) a s =
    let l = less_from low _ a.0 in (
      omega arith,
      above_from_sorted _ es (sorted_head _ e.id (map (λ x. x.id) es) s)
          (sorted_tail _ e.id (map (λ x. x.id) es) s),
    )

above_from_increasing : (es : List Stored) → IsStrictlySortedBy nat_cmp (map (λ e. e.id) es) → Above 0 es
above_from_increasing [] s = tt
above_from_increasing (e ∷ es) s = (omega arith, above_from_sorted _ es (sorted_head _ e.id (map (λ x. x.id) es) s) (sorted_tail _ e.id (map (λ x. x.id) es) s))

eqb-comm : (n m : ℕ) → eqb n m ≡ eqb m n
eqb-comm n m = grind (arith, nat_tests)

-- members by their places
pub contains_from_in : (x : Stored) (xs : List Stored) → In x xs → Contains xs x
contains_from_in x [] i = absurd i
contains_from_in x (y ∷ xs) (inl e) = (0, omega arith, sym e)
contains_from_in x (y ∷ xs) (inr i) = let k = contains_from_in x xs i in (suc k.0, omega arith, k.2)

in_from_place : (x : Stored) (xs : List Stored) (k : ℕ) → k < length xs → get_or xs k x ≡ x → In x xs
in_from_place x [] k l e = absurd (omega arith)
in_from_place x (y ∷ xs) zero l e = inl (sym e)
in_from_place x (y ∷ xs) (suc k) l e = inr (in_from_place x xs k (omega arith) e)

in_permutation : (xs ys : List Stored) → IsPermutation xs ys → (x : Stored) → In x xs → In x ys
in_permutation xs ys p x i = let k = Contains-permutation xs ys x p (contains_from_in x xs i) in in_from_place x ys k.0 k.1 k.2

-- a list by rising ids, and the same in another order whose ids do not fall
pub same_from_permutation : (es xs : List Stored) → Above 0 es → IsPermutation es xs → IsNonDecreasing (map (λ e. e.id) xs) → xs ≡ es
same_from_permutation es xs a p up =
    let d : IsDistinct eqb (map (λ e. e.id) xs) =
    IsDistinct-IsPermutation eqb eqb-comm (map (λ e. e.id) es) (map (λ e. e.id) xs)
    (IsPermutation-map (λ e. e.id) es xs p) (distinct_from_above 0 es a) in
    same_members 0 0 xs es (above_from_increasing xs (sorted_from_strictly_increasing (map (λ e. e.id) xs) (IsStrictlyIncreasing-from_distinct (map (λ e. e.id) xs) up d))) a
    (in_permutation xs es (IsPermutation-sym es xs p)) (in_permutation es xs p)

all_in : (p : Stored → Bool) (es : List Stored) → ((x : Stored) → In x es → p x ≡ true) → list_all p es ≡ true
all_in p [] f = refl
all_in p (e ∷ es) f = and_from _ _ (f e (inl refl)) (all_in p es (λ x i. f x (inr i)))

-- the buckets by their keys
module _ (buffer : List ℕ) (m : Buckets) where
  flat_map-entries : (es : List (ℕ × Bucket)) → All (λ e. get nat_eq m e.0 ≡ Some e.1) es →
      map (stored_of buffer) (flat_map clauses_of (values_of es)) ≡ flat_map (stored_in buffer m) (keys_of es)
  flat_map-entries [] found = refl
  flat_map-entries (e ∷ es) found =
      cc (map-append (stored_of buffer) (clauses_of e.1) (flat_map clauses_of (values_of es)), found 0 e (omega arith), flat_map-entries es (λ k d l. found (suc k) d (omega (arith, l))))

  pub found_all : IsUnique nat_eq m → All (λ e. get nat_eq m e.0 ≡ Some e.1) m.entries
  found_all unique i d l = hash_map_get_place nat_eq_equiv m i _ _ unique (slice_get-get_or m.entries i d l)

  -- they are in the buffer
  entries_within : AreWithin buffer m → (es : List (ℕ × Bucket)) → All (λ e. get nat_eq m e.0 ≡ Some e.1) es → All (λ c. IsWithin c.lits buffer) (flat_map clauses_of (values_of es))
  entries_within within [] found = All-nil (λ c. IsWithin c.lits buffer)
  entries_within within (e ∷ es) found =
      let P : Clause → Type 0 = λ c. IsWithin c.lits buffer in
      All-append P _ _
      (subst (λ o. All P (bucket_items o)) (found 0 e (omega arith)) (within e.0))
      (entries_within within es (λ k d l. found (suc k) d (omega arith)))

  pub all_within : IsUnique nat_eq m → AreWithin buffer m → All (λ c. IsWithin c.lits buffer) (flat_map clauses_of (values m))
  all_within unique within = entries_within within _ (found_all unique)

ids_rise-by : (all : List Clause) → IsNonDecreasingBy (λ c. c.id) all → IsNonDecreasing (map (λ c. c.id) all)
ids_rise-by [] up i j d le l = absurd (omega arith)
ids_rise-by (x ∷ xs) up i j d le l =
    let f : Clause → ℕ = λ c. c.id in
    let lj : j < length (x ∷ xs) = omega (arith, length-map (x ∷ xs) f) in
    let li : i < length (x ∷ xs) = omega arith in
    let a = get_or-map f (x ∷ xs) i x d li in let b = get_or-map f (x ∷ xs) j x d lj in let c = up i j x le lj in omega arith

module _ (h : ClauseHasher) (cs : Clauses) (es : List Stored) (f : IsIndexed h cs es) (unique : IsUnique nat_eq cs.buckets) where
  covered : list_all (λ e. list_any (eqb (hash_of h e.lits)) (keys cs.buckets)) es ≡ true
  covered = all_in (λ e. list_any (eqb (hash_of h e.lits)) (keys cs.buckets)) es (λ x i.
      let k = hash_of h x.lits in
      let here : In x (stored_in cs.literal_buffer.items cs.buckets k) = rw (f.bucketed k) (in_filter (λ e. eqb (hash_of h e.lits) k) x es (grind arith) i) in
      list_any-from_Contains nat_eq_equiv k (keys cs.buckets) ((hash_map_contains_key_iff nat_eq_equiv exact_unsigned_eq cs.buckets k).0 (some_here cs.literal_buffer.items cs.buckets k x here)))

  pub in_other_order : IsPermutation es (map (stored_of cs.literal_buffer.items) (flat_map clauses_of (values cs.buckets)))
  in_other_order =
      subst (IsPermutation es) (cc (
        flat_map-entries cs.literal_buffer.items cs.buckets cs.buckets.entries
            (found_all cs.literal_buffer.items cs.buckets unique),
        ap (λ (g : ℕ → List Stored). flat_map g (keys cs.buckets)) (fun_ext f.bucketed),
      ))
      (covers _ _ es unique covered)

  -- sorted by their ids
  pub gathered : (all : List Clause) → IsPermutation (flat_map clauses_of (values cs.buckets)) all → IsNonDecreasingBy (λ c. c.id) all → map (stored_of cs.literal_buffer.items) all ≡ es
  gathered all p up =
      same_from_permutation es _ (above_from 0 _ es f.rise)
      (IsPermutation-trans es _ _ in_other_order (IsPermutation-map (stored_of cs.literal_buffer.items) _ all p))
      (rw (← ids-same all) (ids_rise-by all up))
    where
      ids-same : (xs : List Clause) → map (λ c. c.id) xs ≡ map (λ e. e.id) (map (stored_of cs.literal_buffer.items) xs)
      ids-same [] = refl
      ids-same (x ∷ xs) = cc (ids-same xs)

  -- they are in the buffer
  pub walked_within : All (λ c. IsWithin c.lits cs.literal_buffer.items) (flat_map clauses_of (values cs.buckets))
  walked_within = all_within cs.literal_buffer.items cs.buckets unique f.within

  pub gathered_within : (all : List Clause) → IsPermutation (flat_map clauses_of (values cs.buckets)) all → All (λ c. IsWithin c.lits cs.literal_buffer.items) all
  gathered_within all p = All-permutation (λ c. IsWithin c.lits cs.literal_buffer.items) _ all p walked_within
