-- Clauses of gates and of differences, one after the other.
use Rattle.std.proofs.Common.{◌≡◌, ℕ, suc, ◌+◌, ◌*◌, ◌<◌, List, [], ◌∷◌, ◌++◌, map, length, take, get_or, refl, ap, sym, ◌∙◌, append_assoc, arith}
use Rattle.std.proofs.lemmas.List.{get_or_default, map-append, take_more, length-take-le}
use Rattle.sat_rules.specs.Clauses.{negate}
use Rattle.circuit_rules.specs.Circuits.{Gate, circuit_clauses, gate_clauses, gates_clauses, lit_of}
use Rattle.circuit_rules.specs.Checks.{difference_clauses, differences, moved}

-- ---- gates

gates_clauses-append : (gs hs : List Gate) → gates_clauses (gs ++ hs) ≡ gates_clauses gs ++ gates_clauses hs
gates_clauses-append [] hs = refl
gates_clauses-append (g ∷ gs) hs = ap (λ cs. gate_clauses g ++ cs) (gates_clauses-append gs hs) ∙ sym (append_assoc (gate_clauses g) (gates_clauses gs) (gates_clauses hs))

-- one gate more, as it is or moved
gates_more : {X : Type 0} (f : X → Gate) (xs : List X) (i : ℕ) (d : X) → i < length xs →
    gates_clauses (map f (take (i + 1) xs)) ≡ gates_clauses (map f (take i xs)) ++ gate_clauses (f (get_or xs i d))
gates_more f xs i d less =
    ap (λ l. gates_clauses (map f l)) (take_more xs i d less)
    ∙ ap gates_clauses (map-append f (take i xs) (get_or xs i d ∷ []))
    ∙ gates_clauses-append (map f (take i xs)) (f (get_or xs i d) ∷ [])

moved_gates_more : {X : Type 0} (m : Gate → Gate) (f : X → Gate) (xs : List X) (i : ℕ) (d : X) → i < length xs →
    gates_clauses (map m (map f (take (i + 1) xs))) ≡ gates_clauses (map m (map f (take i xs))) ++ gate_clauses (m (f (get_or xs i d)))
moved_gates_more m f xs i d less =
    ap (λ l. gates_clauses (map m (map f l))) (take_more xs i d less)
    ∙ ap (λ l. gates_clauses (map m l)) (map-append f (take i xs) (get_or xs i d ∷ []))
    ∙ ap gates_clauses (map-append m (map f (take i xs)) (f (get_or xs i d) ∷ []))
    ∙ gates_clauses-append (map m (map f (take i xs))) (m (f (get_or xs i d)) ∷ [])

-- clauses behind others
behind : (old f new xs ys zs : List (List ℕ)) → new ≡ f ++ ys → f ≡ old ++ xs → zs ≡ xs ++ ys → new ≡ old ++ zs
behind old f new xs ys zs h i e = h ∙ ap (λ cs. cs ++ ys) i ∙ append_assoc old xs ys ∙ ap (λ cs. old ++ cs) (sym e)

module _ {X : Type 0} (g : X → Gate) (xs : List X) (i : ℕ) (x : X) (old f new : List (List ℕ)) (less : i < length xs) (is : x ≡ get_or xs i x) where
  pub circuit_more : new ≡ f ++ gate_clauses (g x) → f ≡ old ++ circuit_clauses (map g (take i xs)) → new ≡ old ++ circuit_clauses (map g (take (i + 1) xs))
  circuit_more h e =
      behind old f new (circuit_clauses (map g (take i xs))) (gate_clauses (g (get_or xs i x))) (circuit_clauses (map g (take (i + 1) xs)))
      (h ∙ ap (λ y. f ++ gate_clauses (g y)) is) e (ap (λ cs. (negate (lit_of 0) ∷ []) ∷ cs) (gates_more g xs i x less))

  pub moved_more : (m : Gate → Gate) → new ≡ f ++ gate_clauses (m (g x)) → f ≡ old ++ gates_clauses (map m (map g (take i xs))) →
      new ≡ old ++ gates_clauses (map m (map g (take (i + 1) xs)))
  moved_more m h e =
      behind old f new (gates_clauses (map m (map g (take i xs)))) (gate_clauses (m (g (get_or xs i x)))) (gates_clauses (map m (map g (take (i + 1) xs))))
      (h ∙ ap (λ y. f ++ gate_clauses (m (g y))) is) e (moved_gates_more m g xs i x less)

-- ---- clauses that are added one after the other

pub two_more : (f3 f2 old : List (List ℕ)) (b c : List ℕ) → f3 ≡ f2 ++ c ∷ [] → f2 ≡ old ++ b ∷ [] → f3 ≡ old ++ b ∷ c ∷ []
two_more f3 f2 old b c h i = h ∙ ap (λ f. f ++ c ∷ []) i ∙ append_assoc old (b ∷ []) (c ∷ [])

pub three_more : (f4 f3 f2 old : List (List ℕ)) (a b c : List ℕ) → f4 ≡ f3 ++ c ∷ [] → f3 ≡ f2 ++ b ∷ [] → f2 ≡ old ++ a ∷ [] → f4 ≡ old ++ a ∷ b ∷ c ∷ []
three_more f4 f3 f2 old a b c h i j = h ∙ ap (λ f. f ++ c ∷ []) (two_more f3 f2 old a b i j) ∙ append_assoc old (a ∷ b ∷ []) (c ∷ [])

-- ---- differences

-- one pair of outputs more
differences_clauses-append : (n d v : ℕ) (os ps : List ℕ) (o p : ℕ) → length os ≡ length ps →
    difference_clauses n d v (os ++ o ∷ []) (ps ++ p ∷ []) ≡ difference_clauses n d v os ps ++ difference_clauses n d (v + length os) (o ∷ []) (p ∷ [])
differences_clauses-append n d v [] [] o p e = let z : v + 0 ≡ v = omega arith in rw z refl
differences_clauses-append n d v [] (q ∷ ps) o p e = absurd (omega (arith, e))
differences_clauses-append n d v (q ∷ os) [] o p e = absurd (omega (arith, e))
differences_clauses-append n d v (q ∷ os) (r ∷ ps) o p e =
    let s : suc v + length os ≡ v + length (q ∷ os) = omega arith in
    ap (λ cs. (negate (lit_of v) ∷ q ∷ moved n d r ∷ []) ∷ (negate (lit_of v) ∷ negate q ∷ negate (moved n d r) ∷ []) ∷ cs)
    (differences_clauses-append n d (suc v) os ps o p (omega (arith, e))
    ∙ ap (λ k. difference_clauses n d (suc v) os ps ++ difference_clauses n d k (o ∷ []) (p ∷ [])) s)

differences-append : (v : ℕ) (os : List ℕ) (o : ℕ) → differences v (os ++ o ∷ []) ≡ differences v os ++ lit_of (v + length os) ∷ []
differences-append v [] o = let z : v + 0 ≡ v = omega arith in rw z refl
differences-append v (q ∷ os) o =
    let s : suc v + length os ≡ v + length (q ∷ os) = omega arith in
    ap (λ ls. lit_of v ∷ ls) (differences-append (suc v) os o ∙ ap (λ k. differences (suc v) os ++ lit_of k ∷ []) s)

-- up to an index, and one pair more
difference_more : (n d v : ℕ) (os ps : List ℕ) (i : ℕ) → length os ≡ length ps → i < length os →
    difference_clauses n d v (take (i + 1) os) (take (i + 1) ps)
    ≡ difference_clauses n d v (take i os) (take i ps) ++ difference_clauses n d (v + i) (get_or os i 0 ∷ []) (get_or ps i 0 ∷ [])
difference_more n d v os ps i e less =
    let one : length (take i os) ≡ i = length-take-le i os (omega (arith, less)) in
    let other : length (take i ps) ≡ i = length-take-le i ps (omega (arith, e, less)) in
    let h = differences_clauses-append n d v (take i os) (take i ps) (get_or os i 0) (get_or ps i 0) (one ∙ sym other) in
    rw (take_more os i 0 less, take_more ps i 0 (omega (arith, e, less)))
    (h ∙ ap (λ k. difference_clauses n d v (take i os) (take i ps) ++ difference_clauses n d (v + k) (get_or os i 0 ∷ []) (get_or ps i 0 ∷ [])) one)

differences_more : (v : ℕ) (os : List ℕ) (i : ℕ) → i < length os → differences v (take (i + 1) os) ≡ differences v (take i os) ++ lit_of (v + i) ∷ []
differences_more v os i less =
    let one : length (take i os) ≡ i = length-take-le i os (omega (arith, less)) in
    rw (take_more os i 0 less)
    (differences-append v (take i os) (get_or os i 0) ∙ ap (λ k. differences v (take i os) ++ lit_of (v + k) ∷ []) one)

-- the clauses of one difference more, of this literal, between o and p; q is p in the formula
module _ (n d v : ℕ) (os ps : List ℕ) (i l o p q : ℕ) (e : length os ≡ length ps) (less : i < length os) (is : l ≡ 2 * (v + i)) (one : o ≡ get_or os i o)
    (other : p ≡ get_or ps i p) (place : q ≡ moved n d p) where
  clauses_is : (negate l ∷ o ∷ q ∷ []) ∷ (negate l ∷ negate o ∷ negate q ∷ []) ∷ [] ≡ difference_clauses n d (v + i) (get_or os i 0 ∷ []) (get_or ps i 0 ∷ [])
  clauses_is =
      ap (λ x. (negate x ∷ o ∷ q ∷ []) ∷ (negate x ∷ negate o ∷ negate q ∷ []) ∷ []) is
      ∙ ap (λ x. (negate (lit_of (v + i)) ∷ o ∷ x ∷ []) ∷ (negate (lit_of (v + i)) ∷ negate o ∷ negate x ∷ []) ∷ []) place
      ∙ ap (λ x. difference_clauses n d (v + i) (x ∷ []) (p ∷ [])) (one ∙ get_or_default os i o 0 less)
      ∙ ap (λ x. difference_clauses n d (v + i) (get_or os i 0 ∷ []) (x ∷ [])) (other ∙ get_or_default ps i p 0 (omega (arith, e, less)))

  pub difference_on : (old f new : List (List ℕ)) → new ≡ f ++ (negate l ∷ o ∷ q ∷ []) ∷ (negate l ∷ negate o ∷ negate q ∷ []) ∷ [] →
      f ≡ old ++ difference_clauses n d v (take i os) (take i ps) → new ≡ old ++ difference_clauses n d v (take (i + 1) os) (take (i + 1) ps)
  difference_on old f new h before =
      behind old f new (difference_clauses n d v (take i os) (take i ps)) (difference_clauses n d (v + i) (get_or os i 0 ∷ []) (get_or ps i 0 ∷ []))
      (difference_clauses n d v (take (i + 1) os) (take (i + 1) ps)) (h ∙ ap (λ cs. f ++ cs) clauses_is) before (difference_more n d v os ps i e less)

-- and of their literals
pub differences_on : (v : ℕ) (os : List ℕ) (i l : ℕ) (f new : List ℕ) → i < length os → l ≡ 2 * (v + i) → new ≡ f ++ l ∷ [] → f ≡ differences v (take i os) →
    new ≡ differences v (take (i + 1) os)
differences_on v os i l f new less is h before =
    h ∙ ap (λ ls. ls ++ l ∷ []) before ∙ ap (λ x. differences v (take i os) ++ x ∷ []) is ∙ sym (differences_more v os i less)
