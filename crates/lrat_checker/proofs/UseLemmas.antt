-- How often a literal stands in the clauses of the ids below a number, with one more clause and without one.
use Rattle.std.proofs.Common.{◌≡◌, ℕ, zero, suc, ◌+◌, ◌-◌, ◌<◌, ◌≤◌, Bool, true, false, cond, eqb, ltb, List, Option, Some, None, refl, ap, ap₂, ◌∙◌, arith}
use Rattle.std.proofs.lemmas.Bool.{ltb-true, ltb-false, ne_eqb, eq-eqb}
use Rattle.lrat_rules.specs.Counts.{count_in, count_of}
use Rattle.lrat_checker.specs.Uses.{uses_below}

abbrev Named : Type 0
Named = ℕ → Option (List ℕ)

-- in the same clauses as often
uses_same : (f g : Named) (n l : ℕ) → ((k : ℕ) → k < n → f k ≡ g k) → uses_below f n l ≡ uses_below g n l
uses_same f g zero l h = refl
uses_same f g (suc n) l h = ap₂ (λ a o. a + count_in l o) (uses_same f g n l (λ k w. h k (omega (arith, w)))) (h n (omega arith))

-- one more id
pub uses_next : (f : Named) (n l : ℕ) → uses_below f (n + 1) l ≡ uses_below f n l + count_in l (f n)
uses_next f n l = let next : n + 1 ≡ suc n = omega arith in ap (λ k. uses_below f k l) next

-- ids that name nothing add nothing
uses_past : (f : Named) (n d m l : ℕ) → m ≡ n + d → ((k : ℕ) → n ≤ k → f k ≡ None) → uses_below f m l ≡ uses_below f n l
uses_past f n zero m l e h = let same : m ≡ n = omega (arith, e) in ap (λ k. uses_below f k l) same
uses_past f n (suc d) zero l e h = absurd (omega (arith, e))
uses_past f n (suc d) (suc m) l e h =
    let rest = uses_past f n d m l (omega (arith, e)) h in
    let none = ap (count_in l) (h m (omega (arith, e))) in
    omega (arith, rest, none)

-- at one id, and at the others
at_id : (f g : Named) (o : Option (List ℕ)) (i : ℕ) → ((k : ℕ) → g k ≡ cond (eqb k i) o (f k)) → g i ≡ o
at_id f g o i change = change i ∙ ap (λ b. cond b o (f i)) (eq-eqb i i refl)

at_other : (f g : Named) (o : Option (List ℕ)) (i k : ℕ) → ((k : ℕ) → g k ≡ cond (eqb k i) o (f k)) → (k ≡ i → ⊥) → g k ≡ f k
at_other f g o i k change other = change k ∙ ap (λ b. cond b o (f k)) (ne_eqb k i other)

-- another clause at an id, or none
uses_changed : (f g : Named) (o : Option (List ℕ)) (i n l : ℕ) → ((k : ℕ) → g k ≡ cond (eqb k i) o (f k)) → i < n → uses_below g n l + count_in l (f i) ≡ uses_below f n l + count_in l o
uses_changed f g o i zero l change w = absurd (omega (arith, w))
uses_changed f g o i (suc n) l change w = go (ltb i n) refl (uses_changed f g o i n l change)
  where
    go : (b : Bool) → ltb i n ≡ b → (i < n → uses_below g n l + count_in l (f i) ≡ uses_below f n l + count_in l o) →
        uses_below g (suc n) l + count_in l (f i) ≡ uses_below f (suc n) l + count_in l o
    go true e below =
        let less = ltb-true i n e in
        let rest = below less in
        let here = ap (count_in l) (at_other f g o i n change (λ s. omega (arith, less, s))) in
        omega (arith, rest, here)
    go false e below =
        let last : n ≡ i = omega (arith, w, ltb-false i n e) in
        let rest = uses_same g f n l (λ k v. at_other f g o i k change (λ s. omega (arith, v, s, last))) in
        let new = ap (λ k. count_in l (g k)) last ∙ ap (count_in l) (at_id f g o i change) in
        let old = ap (λ k. count_in l (f k)) last in
        omega (arith, rest, new, old)

-- one more clause, under an id that named none
pub uses_put : (f g : Named) (c : List ℕ) (i n m l : ℕ) → ((k : ℕ) → g k ≡ cond (eqb k i) (Some c) (f k)) → f i ≡ None → ((k : ℕ) → n ≤ k → f k ≡ None) → n ≤ m → i < m →
    uses_below g m l ≡ count_of l c + uses_below f n l
uses_put f g c i n m l change free within w v =
    let changed = uses_changed f g (Some c) i m l change v in
    let past = uses_past f n (m - n) m l (omega (arith, w)) within in
    let none = ap (count_in l) free in
    omega (arith, changed, past, none)

-- without the clause of an id
pub uses_dropped : (f g : Named) (i n l : ℕ) → ((k : ℕ) → g k ≡ cond (eqb k i) None (f k)) → ((k : ℕ) → n ≤ k → f k ≡ None) → uses_below g n l ≡ uses_below f n l - count_in l (f i)
uses_dropped f g i n l change within = go (ltb i n) refl
  where
    go : (b : Bool) → ltb i n ≡ b → uses_below g n l ≡ uses_below f n l - count_in l (f i)
    go true e = let changed = uses_changed f g None i n l change (ltb-true i n e) in omega (arith, changed)
    go false e =
        let past = ltb-false i n e in
        let none = ap (count_in l) (within i past) in
        let rest = uses_same g f n l (λ k v. at_other f g None i k change (λ s. omega (arith, v, s, past))) in
        omega (arith, none, rest)
