-- Canonical lists: determined by their members, and where they hold opposite literals.
use Rattle.std.proofs.Common.{◌≡◌, ℕ, ◌+◌, ◌-◌, ◌%◌, ◌<◌, Bool, true, false, cond, ◌||◌, eqb, ltb, List, [], ◌∷◌, refl, sym, ap, ◌∙◌, subst, arith, inl, inr, eq-eqb, ltb-true}
use Rattle.std.proofs.lemmas.Bool.Decides.{nat_tests}
use Rattle.std.specs.Cmp.{nat_eq_equiv}
use Rattle.std.specs.List.{AllByRecursion, dedup, list_all}
use Rattle.std.specs.List.Sorted.{IsPermutation, IsSorted, IsStrictlySortedBy}
use Rattle.std.specs.Ordering.{nat_cmp}
use Rattle.std.specs.declared.cmp.Ordering.TheVariants.{Less}
use Rattle.std.proofs.lemmas.List.Kept.{Contains-dedup_nat, Contains-from_dedup}
use Rattle.std.proofs.lemmas.List.Sorted.{Contains-permutation, IsPermutation-sym}
use Rattle.std.proofs.lemmas.Map.Keys.{IsStrictlyIncreasing-dedup, sorted_from_strictly_increasing}
use Rattle.std.proofs.lemmas.Map.Views.{Contains-from_any, list_any-from_Contains}
use Rattle.std.proofs.lemmas.Bool.{and_parts, and_from, or_cases, or_left, or_right, eqb-true, ne_eqb, eqb-false, false≢true}
use Rattle.sat_rules.specs.Clauses.{has, is_canonical, is_tautology, negate, var_of}
use Rattle.sat_rules.proofs.Members.{all_at, any_at, any_from}
use Rattle.checker_rules.specs.Canonical.{canonical, insert_lit}
use Rattle.checker_rules.proofs.Entries.{canonical-is}
use Rattle.checker_rules.proofs.Sets.{bool_ext}

-- a number that is in no list of greater ones
pub has-above : (l : ℕ) (c : List ℕ) → list_all (ltb l) c ≡ true → has l c ≡ false
has-above l [] h = refl
has-above l (m ∷ c) h = grind (arith, nat_tests, has-above l c)

-- members of the canonical list
has-insert : (x l : ℕ) (c : List ℕ) → has x (insert_lit l c) ≡ (eqb x l || has x c)
has-insert x l [] = refl
has-insert x l (m ∷ c) = grind (arith, nat_tests, has-insert x l c)

has-canonical : (x : ℕ) (c : List ℕ) → has x (canonical c) ≡ has x c
has-canonical x [] = refl
has-canonical x (l ∷ c) = has-insert x l (canonical c) ∙ ap (λ b. eqb x l || b) (has-canonical x c)

-- canonical lists with equal members are equal
heads : (x y : ℕ) (xs ys : List ℕ) → list_all (ltb x) xs ≡ true → list_all (ltb y) ys ≡ true → has x (y ∷ ys) ≡ true → has y (x ∷ xs) ≡ true → x ≡ y
heads x y xs ys h k a b = grind (arith, nat_tests, has-above, all_at)

later : (x y z : ℕ) (xs ys : List ℕ) → x ≡ y → list_all (ltb x) xs ≡ true → list_all (ltb y) ys ≡ true → has z (x ∷ xs) ≡ has z (y ∷ ys) → has z xs ≡ has z ys
later x y z xs ys e h k same = grind (arith, nat_tests, has-above)

has-first : (x : ℕ) (xs : List ℕ) → has x (x ∷ xs) ≡ true
has-first x xs = grind (arith, nat_tests)

canonical_by_members : (c d : List ℕ) → is_canonical c ≡ true → is_canonical d ≡ true → ((x : ℕ) → has x c ≡ has x d) → c ≡ d
canonical_by_members [] [] h k same = refl
canonical_by_members [] (y ∷ ys) h k same = absurd (false≢true (same y ∙ has-first y ys))
canonical_by_members (x ∷ xs) [] h k same = absurd (false≢true (sym (same x) ∙ has-first x xs))
canonical_by_members (x ∷ xs) (y ∷ ys) h k same =
    let p = and_parts (list_all (ltb x) xs) (is_canonical xs) h in
    let q = and_parts (list_all (ltb y) ys) (is_canonical ys) k in
    let first = heads x y xs ys p.0 q.0 (sym (same x) ∙ has-first x xs) (same y ∙ has-first y ys) in
    let rest = canonical_by_members xs ys p.1 q.1 (λ z. later x y z xs ys first p.0 q.0 (same z)) in cc

pub canonical_from : (src c : List ℕ) → is_canonical c ≡ true → ((x : ℕ) → has x c ≡ has x src) → c ≡ canonical src
canonical_from src c h same = canonical_by_members c (canonical src) h (canonical-is src) (λ x. same x ∙ sym (has-canonical x src))

-- two neighbours share a variable
abbrev pub shares_var : List ℕ → Bool
shares_var [] = false
shares_var (x ∷ []) = false
shares_var (x ∷ y ∷ ys) = eqb (var_of x) (var_of y) || shares_var (y ∷ ys)

opposite : (x y : ℕ) → x < y → var_of x ≡ var_of y → negate x ≡ y
opposite x y h e = ap (λ b. cond b (x - 1) (x + 1)) (ne_eqb (x % 2) 1 (λ d. omega arith)) ∙ omega arith

tautology-cons : (x : ℕ) (c : List ℕ) → is_tautology c ≡ true → is_tautology (x ∷ c) ≡ true
tautology-cons x c h = grind (arith, any_at, any_from, or_right)

from_neighbours : (c : List ℕ) → is_canonical c ≡ true → shares_var c ≡ true → is_tautology c ≡ true
from_neighbours [] h t = absurd (false≢true t)
from_neighbours (x ∷ []) h t = absurd (false≢true t)
from_neighbours (x ∷ y ∷ ys) h t =
    let q = and_parts (list_all (ltb x) (y ∷ ys)) (is_canonical (y ∷ ys)) h in
    let below = ltb-true x y (and_parts (ltb x y) (list_all (ltb x) ys) q.0).0 in
    elim (or_cases (eqb (var_of x) (var_of y)) (shares_var (y ∷ ys)) t) [
      | inl now ↦ or_left (has (negate x) (x ∷ y ∷ ys)) _ (or_right (eqb (negate x) x) (has (negate x) (y ∷ ys))
          (or_left (eqb (negate x) y) (has (negate x) ys) (eq-eqb (negate x) y (opposite x y below (eqb-true (var_of x) (var_of y) now)))))
      | inr later ↦ tautology-cons x (y ∷ ys) (from_neighbours (y ∷ ys) q.1 later)
    ]

-- a literal and the next code, of the same variable
lower : (x l : ℕ) (c : List ℕ) → list_all (ltb x) c ≡ true → has l c ≡ true → x < l
lower x l c h k = ltb-true x l (all_at (ltb x) c l h k)

second_is : (x y : ℕ) (ys : List ℕ) → list_all (ltb y) ys ≡ true → has (x + 1) (x ∷ y ∷ ys) ≡ true → x < y → x + 1 ≡ y
second_is x y ys k b less = grind (arith, nat_tests, lower y (x + 1) ys)

among_later : (x l : ℕ) (c : List ℕ) → list_all (ltb x) c ≡ true → has l c ≡ true → has (l + 1) (x ∷ c) ≡ true → has (l + 1) c ≡ true
among_later x l c h k b = grind (arith, nat_tests, lower x l c)

pair_shares : (c : List ℕ) (l : ℕ) → is_canonical c ≡ true → has l c ≡ true → has (l + 1) c ≡ true → var_of l ≡ var_of (l + 1) → shares_var c ≡ true
pair_shares [] l h a b e = absurd (false≢true a)
pair_shares (x ∷ []) l h a b e = grind (arith, nat_tests)
pair_shares (x ∷ y ∷ ys) l h a b e =
    let p = and_parts (list_all (ltb x) (y ∷ ys)) (is_canonical (y ∷ ys)) h in
    let q = and_parts (list_all (ltb y) ys) (is_canonical ys) p.1 in
    let less = ltb-true x y (and_parts (ltb x y) (list_all (ltb x) ys) p.0).0 in
    elim (or_cases (eqb l x) (has l (y ∷ ys)) a) [
      | inl first ↦
          let same = eqb-true l x first in let next = second_is x y ys q.0 (subst (λ n. has (n + 1) (x ∷ y ∷ ys) ≡ true) same b) less in
          or_left (eqb (var_of x) (var_of y)) (shares_var (y ∷ ys)) (eq-eqb (var_of x) (var_of y) (omega (arith, same, next, e)))
      | inr both ↦ or_right (eqb (var_of x) (var_of y)) (shares_var (y ∷ ys)) (pair_shares (y ∷ ys) l p.1 both (among_later x l (y ∷ ys) p.0 both b) e)
    ]

to_neighbours : (c : List ℕ) → is_canonical c ≡ true → is_tautology c ≡ true → shares_var c ≡ true
to_neighbours c h t = grind (arith, any_at, eqb-true, pair_shares, eqb-false)

-- opposite literals of a canonical list are neighbours
pub shares_var-canonical : (c : List ℕ) → is_canonical c ≡ true → shares_var c ≡ is_tautology c
shares_var-canonical c h = bool_ext (shares_var c) (is_tautology c) (from_neighbours c h) (to_neighbours c h)

-- a list that rises is canonical
above-sorted : (x : ℕ) (ys : List ℕ) → AllByRecursion (λ y. nat_cmp x y ≡ Less) ys → list_all (ltb x) ys ≡ true
above-sorted x [] k = refl
above-sorted x (y ∷ ys) k = grind (arith, nat_tests, above-sorted x ys k.1)

canonical_from_sorted : (c : List ℕ) → IsStrictlySortedBy nat_cmp c → is_canonical c ≡ true
unfolding IsStrictlySortedBy
canonical_from_sorted [] h = refl
canonical_from_sorted (x ∷ c) h = and_from (list_all (ltb x) c) (is_canonical c) (above-sorted x c h.0) (canonical_from_sorted c h.1)

-- the sorted list of a list, without its repeats
pub sorted-canonical : (src sorted : List ℕ) → IsPermutation src sorted → IsSorted nat_cmp sorted → dedup eqb sorted ≡ canonical src
sorted-canonical src sorted p s = canonical_from src (dedup eqb sorted)
    (canonical_from_sorted (dedup eqb sorted) (sorted_from_strictly_increasing (dedup eqb sorted) (IsStrictlyIncreasing-dedup sorted s)))
    (λ x. bool_ext (has x (dedup eqb sorted)) (has x src)
    (λ h. list_any-from_Contains nat_eq_equiv x src
    (Contains-permutation sorted src x (IsPermutation-sym src sorted p)
    (Contains-from_dedup eqb sorted x (Contains-from_any eqb-true x (dedup eqb sorted) h))))
    (λ h. list_any-from_Contains nat_eq_equiv x (dedup eqb sorted) (Contains-dedup_nat sorted x (Contains-permutation src sorted x p (Contains-from_any eqb-true x src h)))))
