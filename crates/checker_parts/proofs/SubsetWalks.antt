-- One walk down two canonical lists decides the subset test.
use Rattle.std.proofs.Common.{◌≡◌, ℕ, ◌<◌, Bool, true, false, cond, not, ◌&&◌, eqb, ltb, List, [], ◌∷◌, length, refl, sym, ap, arith}
use Rattle.std.proofs.lemmas.Bool.Decides.{nat_tests}
use Rattle.std.specs.List.{list_all}
use Rattle.std.proofs.lemmas.Bool.{and_parts, eq-eqb, ne_eqb}
use Rattle.sat_rules.specs.Clauses.{is_canonical}
use Rattle.checker_rules.specs.Canonical.{is_subset}
use Rattle.checker_parts.specs.Subsets.{is_subset_by}
use Rattle.checker_parts.proofs.CanonicalLists.{has-above}

-- the walk: `strict` says that a literal of the second list alone is still to be found
abbrev pub subset_walk : Bool → List ℕ → List ℕ → Bool
subset_walk strict [] [] = not strict
subset_walk strict (x ∷ xs) [] = false
subset_walk strict [] (y ∷ ys) = true
subset_walk strict (x ∷ xs) (y ∷ ys) = cond (ltb x y) false (cond (eqb x y) (subset_walk strict xs ys) (subset_walk false (x ∷ xs) ys))

-- at the end of the second list
pub subset_walk-end : (strict : Bool) (c d : List ℕ) → length d ≡ 0 → subset_walk strict c d ≡ (eqb (length c) 0 && not strict)
subset_walk-end strict [] [] h = refl
subset_walk-end strict (x ∷ xs) [] h = ap (λ b. b && not strict) (sym (ne_eqb (length (x ∷ xs)) 0 (λ e. omega arith)))
subset_walk-end strict c (y ∷ ys) h = absurd (omega arith)

further : (x y : ℕ) (c : List ℕ) → x < y → list_all (ltb y) c ≡ true → list_all (ltb x) c ≡ true
further x y [] h k = refl
further x y (z ∷ c) h k = grind (arith, nat_tests, further x y c h)

above-all : (x y : ℕ) (c : List ℕ) → x < y → list_all (ltb y) c ≡ true → list_all (ltb x) (y ∷ c) ≡ true
above-all x y c h k = grind (arith, nat_tests, further)

-- greater literals are in the list exactly if they are in its tail
tail_only : (y : ℕ) (ys c : List ℕ) → list_all (ltb y) c ≡ true → is_subset c (y ∷ ys) ≡ is_subset c ys
tail_only y ys [] h = refl
tail_only y ys (x ∷ c) h = grind (arith, nat_tests, tail_only y ys c)

same_head : (x y : ℕ) (xs ys : List ℕ) → x ≡ y → list_all (ltb x) xs ≡ true → is_subset (x ∷ xs) (y ∷ ys) ≡ is_subset xs ys
same_head x y xs ys e h = grind (arith, eq-eqb, tail_only)

lower_head : (x y : ℕ) (xs ys : List ℕ) → x < y → list_all (ltb y) ys ≡ true → is_subset (x ∷ xs) (y ∷ ys) ≡ false
lower_head x y xs ys h k = ap (λ b. b && is_subset xs (y ∷ ys)) (has-above x (y ∷ ys) (above-all x y ys h k))

walk-step : (strict : Bool) (x y : ℕ) (xs ys : List ℕ) → list_all (ltb x) xs ≡ true → list_all (ltb y) ys ≡ true →
    subset_walk strict xs ys ≡ is_subset_by strict xs ys → subset_walk false (x ∷ xs) ys ≡ is_subset_by false (x ∷ xs) ys →
    subset_walk strict (x ∷ xs) (y ∷ ys) ≡ is_subset_by strict (x ∷ xs) (y ∷ ys)
walk-step strict x y xs ys h k both later =
    grind (arith, nat_tests, above-all y x xs, tail_only y ys (x ∷ xs), has-above y (x ∷ xs), lower_head x y xs ys, same_head x y xs ys, same_head y x ys xs)

pub subset_walk-canonical : (strict : Bool) (c d : List ℕ) → is_canonical c ≡ true → is_canonical d ≡ true → subset_walk strict c d ≡ is_subset_by strict c d
subset_walk-canonical strict [] [] h k = grind arith
subset_walk-canonical strict (x ∷ xs) [] h k = grind arith
subset_walk-canonical strict [] (y ∷ ys) h k = grind arith
subset_walk-canonical strict (x ∷ xs) (y ∷ ys) h k =
    let p = and_parts (list_all (ltb x) xs) (is_canonical xs) h in
    let q = and_parts (list_all (ltb y) ys) (is_canonical ys) k in
    walk-step strict x y xs ys p.0 q.0 (subset_walk-canonical strict xs ys p.1 q.1) (subset_walk-canonical false (x ∷ xs) ys h q.1)
