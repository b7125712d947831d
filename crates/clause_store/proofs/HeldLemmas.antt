-- The counts of the clauses that hold each literal.
use Rattle.std.proofs.Common.{◌≡◌, ℕ, zero, suc, ◌+◌, ◌-◌, ◌*◌, ◌<◌, ◌||◌, Bool, true, false, cond, eqb, ltb, List, [], ◌∷◌, length, get_or, set, take, refl, ap, ◌∙◌}
use Rattle.std.proofs.Common.{arith, eq-eqb, ⊎_elim, get_or-set_other, ◌++◌, length-append, map, replicate}
use Rattle.std.proofs.Math.ListN.{get_or-eq_default}
use Rattle.std.proofs.lemmas.Bool.{cases_lt}
use Rattle.std.proofs.lemmas.List.{get_or_default, length-replicate}
use Rattle.std.proofs.lemmas.List.Folds.{list_any_more, list_all_at}
use Rattle.std.proofs.lemmas.Bool.Decides.{nat_tests}
use Rattle.std.proofs.lemmas.Grind.{get_or-set_at}
use Rattle.sat_rules.specs.Clauses.{has, is_canonical}
use Rattle.checker_rules.specs.Canonical.{var_bound}
use Rattle.checker_rules.specs.State.{Stored}
use Rattle.checker_rules.specs.Store.{raise}
use Rattle.checker_rules.proofs.Sets.{raise-lits}
use Rattle.clause_store.specs.Counts.{HoldOneMore, AreCounts, times_held}

-- a literal with a count is one of a known variable
pub known_from-count : (counts : List ℕ) (l : ℕ) → 0 < get_or counts l 0 → l < length counts
known_from-count counts l held = ⊎_elim (λ less. less) (λ more. absurd (let none = get_or-eq_default _ 0 more in omega arith)) (cases_lt l _)

-- a literal of a list, read at its place
pub item_is : (c : List ℕ) (i l : ℕ) → i < length c → l ≡ get_or c i l → l ≡ get_or c i 0
item_is c i l less e = e ∙ get_or_default c i l 0 less

-- no literal of a canonical list is before itself
pub has-before : (c : List ℕ) (i : ℕ) → i < length c → is_canonical c ≡ true → has (get_or c i 0) (take i c) ≡ false
has-before [] i less h = absurd (omega arith)
has-before (x ∷ xs) zero less h = refl
has-before (x ∷ xs) (suc i) less h =
    let later : i < length xs = omega arith in grind (arith, nat_tests, list_all_at (ltb x) xs i 0 later, has-before xs i later)

-- a literal of a list is below twice the bound of its variables
pub below-bound : (c : List ℕ) (i : ℕ) → i < length c → get_or c i 0 < 2 * var_bound c
below-bound [] i less = absurd (omega arith)
below-bound (x ∷ xs) zero less = omega arith
below-bound (x ∷ xs) (suc i) less = let k = below-bound xs i (omega arith) in omega arith

pub has-at : (c : List ℕ) (i : ℕ) → i < length c → has (get_or c i 0) c ≡ true
has-at [] i less = absurd (omega arith)
has-at (x ∷ xs) zero less = cc (eq-eqb x x refl)
has-at (x ∷ xs) (suc i) less = grind (arith, has-at xs i (omega (arith, less)))

-- one literal more of a list, which is held once more
has-more : (c : List ℕ) (i m : ℕ) → i < length c → has m (take (i + 1) c) ≡ (has m (take i c) || eqb m (get_or c i 0))
has-more c i m less = list_any_more _ c i 0 less

module _ (c : List ℕ) (i : ℕ) (less : i < length c) (canonical : is_canonical c ≡ true) where
  abbrev l : ℕ
  l = get_or c i 0

  pub raised-more : (old now : List ℕ) → l < length now → HoldOneMore (take i c) old now → HoldOneMore (take (i + 1) c) old (set now l (get_or now l 0 + 1))
  raised-more old now known held m = grind (arith, nat_tests, get_or-set_at, get_or-set_other, held m, has-more c i m less, has-before c i less canonical)

  pub lowered-more : (old now : List ℕ) → 0 < get_or now l 0 → HoldOneMore (take i c) now old → HoldOneMore (take (i + 1) c) (set now l (get_or now l 0 - 1)) old
  lowered-more old now some held m =
      grind (arith, nat_tests, get_or-set_at, get_or-set_other, known_from-count now l some, held m, has-more c i m less, has-before c i less canonical)

  -- the count of the next literal is as it was
  pub raised-next : (old now : List ℕ) → HoldOneMore (take i c) old now → get_or now l 0 ≡ get_or old l 0
  raised-next old now held = grind (arith, held l, has-before c i less canonical)

-- a clause with other counts of copies holds the same literals
pub times_held-map : (f : Stored → Stored) → ((e : Stored) → (f e).lits ≡ e.lits) → (l : ℕ) (es : List Stored) → times_held l (map f es) ≡ times_held l es
times_held-map f same l [] = refl
times_held-map f same l (e ∷ es) = (λ i. cond (has l (same e i)) 1 0 + times_held-map f same l es i)

pub times_held-push : (l : ℕ) (es : List Stored) (e : Stored) → times_held l (es ++ e ∷ []) ≡ times_held l es + cond (has l e.lits) 1 0
times_held-push l [] e = omega arith
times_held-push l (x ∷ es) e = let k = times_held-push l es e in omega arith

pub counts-raised : (counts : List ℕ) (n : ℕ) (r : Bool) (c : List ℕ) (es : List Stored) → AreCounts counts n es → AreCounts counts n (map (raise r c) es)
counts-raised counts n r c es a = record { known = a.known; held = λ l. cc (a.held l, times_held-map (raise r c) (raise-lits r c) l es) }

pub counts-pushed : (counts counts' : List ℕ) (n : ℕ) (es : List Stored) (e : Stored) → AreCounts counts n es →
    HoldOneMore e.lits counts counts' → length counts' ≡ length counts → AreCounts counts' n (es ++ e ∷ [])
counts-pushed counts counts' n es e a more same = record {
  known = cc;
  held = λ l. cc (more l, a.held l, times_held-push l es e);
}

-- the literals of a new variable have no count
new-none : (counts : List ℕ) (k l : ℕ) → get_or (counts ++ replicate k 0) l 0 ≡ get_or counts l 0
new-none [] zero l = refl
new-none [] (suc k) zero = refl
new-none [] (suc k) (suc l) = new-none [] k l
new-none (x ∷ xs) k zero = refl
new-none (x ∷ xs) k (suc l) = new-none xs k l

pub counts-known : (counts counts' : List ℕ) (n m count : ℕ) (es : List Stored) → AreCounts counts n es →
    counts' ≡ counts ++ replicate (2 * count - length counts) 0 → m ≡ n + (count - n) → AreCounts counts' m es
counts-known counts counts' n m count es a grown more = record {
  known = let long = ap length grown ∙ length-append counts (replicate (2 * count - length counts) 0) in let new =
      length-replicate {A = ℕ} (2 * count - length counts) 0 in omega (arith, long, new, a.known, more);
  held = λ l. ap (λ (xs : List ℕ). get_or xs l 0) grown ∙ new-none counts (2 * count - length counts) l ∙ a.held l;
}
