-- Numbers that are too large, among the ranks of a text.
use Rattle.std.proofs.Common.{◌≡◌, ℕ, zero, suc, ◌+◌, ◌*◌, ◌-◌, Bool, true, false, cond, nat_lt, List, [], ◌∷◌, ◌++◌, Option, Some, None, length, take, drop, refl, sym, ◌∙◌, ap, length-drop, arith}
use Rattle.std.specs.List.{list_all}
use Rattle.std.proofs.lemmas.List.Folds.{list_all-append}
use Rattle.package_rules.specs.Debian.{against_rest, compare_ranks, is_digit, rank, ranks}

more : (m n d : ℕ) → nat_lt n m ≡ false → nat_lt (10 * n + d) m ≡ false
more m n d h = grind (arith, h)

either : (b : Bool) (m : ℕ) (xs ys : List ℕ) → list_all (λ n. nat_lt n m) xs ≡ false → list_all (λ n. nat_lt n m) ys ≡ false →
    list_all (λ n. nat_lt n m) (cond b xs ys) ≡ false
either true m xs ys h k = h
either false m xs ys h k = k

first : (m n : ℕ) (ns : List ℕ) → nat_lt n m ≡ false → list_all (λ n. nat_lt n m) (n ∷ ns) ≡ false
first m n ns h = grind (arith, h)

pub large : (m n : ℕ) (cs : List ℕ) → nat_lt n m ≡ false → list_all (λ n. nat_lt n m) (ranks (Some n) cs) ≡ false
large m n [] h = first m n [] h
large m n (c ∷ cs) h =
    either (is_digit c) m (ranks (Some (10 * n + (c - 48))) cs) (n ∷ rank c ∷ ranks None cs) (large m (10 * n + (c - 48)) cs (more m n (c - 48) h))
    (first m n (rank c ∷ ranks None cs) h)

pub among : (m : ℕ) (xs ys : List ℕ) → list_all (λ n. nat_lt n m) ys ≡ false → list_all (λ n. nat_lt n m) (xs ++ ys) ≡ false
among m xs ys h = grind (arith, h, list_all-append (λ n. nat_lt n m) xs ys)

pub at_digit : (m n byte : ℕ) (number : Option ℕ) (cs : List ℕ) → number ≡ Some n → is_digit byte ≡ true → nat_lt (10 * n + (byte - 48)) m ≡ false →
    list_all (λ n. nat_lt n m) (ranks number (byte ∷ cs)) ≡ false
at_digit m n byte number cs e d h = grind (arith, e, d, large m (10 * n + (byte - 48)) cs h)

nothing_left : (ys : List ℕ) (n : ℕ) → n ≡ length ys → drop n ys ≡ []
nothing_left [] zero e = refl
nothing_left [] (suc n) e = refl
nothing_left (y ∷ ys) zero e = grind (arith, e)
nothing_left (y ∷ ys) (suc n) e = grind (arith, e, nothing_left ys n)

alone : (number : Bool) (xs : List ℕ) → compare_ranks number xs [] ≡ against_rest number xs
alone number [] = refl
alone number (x ∷ xs) = refl

-- behind the end of the second part, the rest of the first one decides
pub beside_end : (number : Bool) (xs ys : List ℕ) (n : ℕ) → n ≡ length ys → compare_ranks number xs (drop n ys) ≡ against_rest number xs
beside_end number xs ys n e = ap (compare_ranks number xs) (nothing_left ys n e) ∙ alone number xs

pub all_taken : (xs : List ℕ) (k : ℕ) → k ≡ length xs → take k xs ≡ xs
all_taken [] zero e = refl
all_taken [] (suc k) e = refl
all_taken (x ∷ xs) zero e = grind (arith, e)
all_taken (x ∷ xs) (suc k) e = grind (arith, e, all_taken xs k)

-- the rest of the first part, as a slice
pub ended : (number : Bool) (one other : List ℕ) (n : ℕ) → n ≡ length other → compare_ranks false one other ≡ compare_ranks number (drop n one) (drop n other) →
    against_rest number (take (length one - n) (drop n one)) ≡ compare_ranks false one other
ended number one other n e h =
    ap (against_rest number) (all_taken (drop n one) (length one - n) (sym (length-drop n one)))
    ∙ sym (beside_end number (drop n one) other n e) ∙ sym h
