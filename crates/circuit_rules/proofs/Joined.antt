-- Two circuits side by side in one assignment.
use Rattle.std.proofs.Common.{◌≡◌, ℕ, zero, suc, ◌*◌, ◌+◌, ◌-◌, Bool, true, false, cond, not, ◌&&◌, nat_lt, nat_le, List, [], ◌∷◌, ◌++◌, map, length, refl, ap, sym, ◌∙◌, arith}
use Rattle.std.proofs.lemmas.Bool.{and_parts, or_parts}
use Rattle.std.proofs.lemmas.List.Folds.{list_all-append}
use Rattle.sat_rules.specs.Clauses.{all_true, clause_true, is_negative, lit_true, negate, var_of}
use Rattle.sat_rules.proofs.Chains.{lit_true-negate}
use Rattle.circuit_rules.specs.Circuits.{Gate, are_ordered, circuit_clauses, gate_clauses, gates_clauses, lit_of, simulated, with_value}
use Rattle.circuit_rules.specs.Checks.{SameIsShown, difference_clauses, differences, gates_below, lits_below, moved, moved_gate}
use Rattle.circuit_rules.proofs.Simulation.{Fits, both, gate_met, in_order, kept, positive, run_fits}

-- whether the outputs at this place differ
abbrev differ : List Bool → List Bool → ℕ → Bool
differ [] ys k = false
differ (x ∷ xs) [] k = false
differ (x ∷ xs) (y ∷ ys) zero = cond x (not y) y
differ (x ∷ xs) (y ∷ ys) (suc k) = differ xs ys k

-- the values of the first circuit, then those of the second, then the differences
pub joined : (n d v : ℕ) (s t e : ℕ → Bool) → ℕ → Bool
joined n d v s t e x = cond (nat_lt x (suc n + d)) (s x) (cond (nat_lt x v) (t (x - d)) (e (x - v)))

pub in_first : (n d v : ℕ) (s t e : ℕ → Bool) (x : ℕ) → nat_lt x (suc n + d) ≡ true → joined n d v s t e x ≡ s x
unfolding joined
in_first n d v s t e x h = ap (λ q. cond q (s x) (cond (nat_lt x v) (t (x - d)) (e (x - v)))) h

pub in_second : (n d v : ℕ) (s t e : ℕ → Bool) (x : ℕ) → nat_lt x (suc n) ≡ false → nat_lt (x + d) v ≡ true → joined n d v s t e (x + d) ≡ t x
unfolding joined
in_second n d v s t e x h k = let q : x + d - d ≡ x = omega arith in rw q (grind arith)

in_third : (n d v : ℕ) (s t e : ℕ → Bool) (k : ℕ) → nat_lt v (suc n + d) ≡ false → joined n d v s t e (v + k) ≡ e k
unfolding joined
in_third n d v s t e k h = let q : v + k - v ≡ k = omega arith in rw q (grind arith)

pub first_lit : (n d v : ℕ) (s t e : ℕ → Bool) (l : ℕ) → nat_lt (var_of l + 0) (suc n + d) ≡ true → lit_true (joined n d v s t e) l ≡ lit_true s l
first_lit n d v s t e l h = ap (λ q. cond (is_negative l) (not q) q) (in_first n d v s t e (var_of l) (grind (arith, h)))

moved_var : (l d : ℕ) → var_of (l + 2 * d) ≡ var_of l + d
moved_var l d = omega arith

moved_sign : (l d : ℕ) → is_negative (l + 2 * d) ≡ is_negative l
moved_sign l d = grind arith

by_parts : (a t : ℕ → Bool) (l m y : ℕ) → is_negative m ≡ is_negative l → var_of m ≡ y → a y ≡ t (var_of l) → lit_true a m ≡ lit_true t l
by_parts a t l m y h k e = cc (h, k, e)

moved_by : (b : Bool) (n d v : ℕ) (s t e : ℕ → Bool) → ((x : ℕ) → nat_lt x (suc n) ≡ true → s x ≡ t x) → (l : ℕ) → nat_lt (var_of l + d) v ≡ true →
    nat_lt (var_of l) (suc n) ≡ b → lit_true (joined n d v s t e) (cond b l (l + 2 * d)) ≡ lit_true t l
moved_by true n d v s t e same l h k = ap (λ q. cond (is_negative l) (not q) q) (in_first n d v s t e (var_of l) (grind (arith, k)) ∙ same (var_of l) k)
moved_by false n d v s t e same l h k = by_parts (joined n d v s t e) t l (l + 2 * d) (var_of l + d) (moved_sign l d) (moved_var l d) (in_second n d v s t e (var_of l) k h)

-- a literal of the second circuit, where the inputs have the same values in both
pub moved_lit : (n d v : ℕ) (s t e : ℕ → Bool) → ((x : ℕ) → nat_lt x (suc n) ≡ true → s x ≡ t x) → nat_lt v (suc n + d) ≡ false → (l : ℕ) → nat_lt (var_of l + d) v ≡ true →
    lit_true (joined n d v s t e) (moved n d l) ≡ lit_true t l
moved_lit n d v s t e same last l h = moved_by (nat_lt (var_of l) (suc n)) n d v s t e same l h refl

-- ---- the clauses of both

no_move : (x m : ℕ) → nat_lt x m ≡ true → nat_lt (x + 0) m ≡ true
no_move x m h = grind arith

moved_before : (x k s d v : ℕ) → nat_lt x k ≡ true → nat_le k s ≡ true → nat_lt (s + d) v ≡ true → nat_lt (x + d) v ≡ true
moved_before x k s d v h i j = grind arith

pub first_met : (b s : ℕ → Bool) (m k : ℕ) (gs : List Gate) → ((l : ℕ) → nat_lt (var_of l + 0) m ≡ true → lit_true b l ≡ lit_true s l) →
    ((x : ℕ) → nat_lt (x + 0) m ≡ true → b x ≡ s x) → are_ordered k gs ≡ true → gates_below 0 m gs ≡ true → Fits s gs → all_true b (gates_clauses gs) ≡ true
first_met b s m k [] lits vars h below fits = refl
first_met b s m k (g ∷ gs) lits vars h below fits =
    let o = in_order k g gs h in
    let p = and_parts (nat_lt (g.var + 0) m) (gates_below 0 m gs) below in
    let left = lits g.left (moved_before (var_of g.left) k g.var 0 m o.left o.behind p.0) in
    let right = lits g.right (moved_before (var_of g.right) k g.var 0 m o.right o.behind p.0) in
    grind (
      arith,
      list_all-append (clause_true b) (gate_clauses g) (gates_clauses gs),
      gate_met b g (vars g.var p.0 ∙ fits.0 ∙ sym (both left right)),
      first_met b s m (suc g.var) gs lits vars o.rest p.1 fits.1,
    )

not_before : (n k s : ℕ) → nat_le (suc n) k ≡ true → nat_le k s ≡ true → nat_lt s (suc n) ≡ false
not_before n k s h i = grind arith

still_behind : (n k s : ℕ) → nat_le (suc n) k ≡ true → nat_le k s ≡ true → nat_le (suc n) (suc s) ≡ true
still_behind n k s h i = grind arith

pub second_met : (b t : ℕ → Bool) (n d v k : ℕ) (gs : List Gate) → ((l : ℕ) → nat_lt (var_of l + d) v ≡ true → lit_true b (moved n d l) ≡ lit_true t l) →
    ((x : ℕ) → nat_lt x (suc n) ≡ false → nat_lt (x + d) v ≡ true → b (x + d) ≡ t x) → nat_le (suc n) k ≡ true → are_ordered k gs ≡ true →
    gates_below d v gs ≡ true → Fits t gs → all_true b (gates_clauses (map (moved_gate n d) gs)) ≡ true
second_met b t n d v k [] lits vars behind h below fits = refl
second_met b t n d v k (g ∷ gs) lits vars behind h below fits =
    let o = in_order k g gs h in
    let p = and_parts (nat_lt (g.var + d) v) (gates_below d v gs) below in
    let left = lits g.left (moved_before (var_of g.left) k g.var d v o.left o.behind p.0) in
    let right = lits g.right (moved_before (var_of g.right) k g.var d v o.right o.behind p.0) in
    grind (
      arith,
      list_all-append (clause_true b) (gate_clauses (moved_gate n d g)) (gates_clauses (map (moved_gate n d) gs)),
      gate_met b (moved_gate n d g) (vars g.var (not_before n k g.var behind o.behind) p.0 ∙ fits.0 ∙ sym (both left right)),
      second_met b t n d v (suc g.var) gs lits vars (still_behind n k g.var behind o.behind) o.rest p.1 fits.1,
    )

-- ---- the differences

differ_clause : (b : ℕ → Bool) (w o p : ℕ) → b w ≡ cond (lit_true b o) (not (lit_true b p)) (lit_true b p) →
    all_true b ((negate (lit_of w) ∷ o ∷ p ∷ []) ∷ (negate (lit_of w) ∷ negate o ∷ negate p ∷ []) ∷ []) ≡ true
differ_clause b w o p h = grind (arith, positive b w, lit_true-negate b (lit_of w), lit_true-negate b o, lit_true-negate b p)

at_once : (b : ℕ → Bool) (w : ℕ) (f : ℕ → Bool) → ((k x : ℕ) → x ≡ w + k → b x ≡ f k) → b w ≡ f 0
at_once b w f h = h 0 w (omega arith)

apart : {p q r s : Bool} → p ≡ r → q ≡ s → cond p (not q) q ≡ cond r (not s) s
apart h k = cc (h, k)

differences_met : (b s t : ℕ → Bool) (n d v m w : ℕ) (os ps : List ℕ) → ((l : ℕ) → nat_lt (var_of l + 0) m ≡ true → lit_true b l ≡ lit_true s l) →
    ((l : ℕ) → nat_lt (var_of l + d) v ≡ true → lit_true b (moved n d l) ≡ lit_true t l) → lits_below 0 m os ≡ true → lits_below d v ps ≡ true →
    ((k x : ℕ) → x ≡ w + k → b x ≡ differ (map (lit_true s) os) (map (lit_true t) ps) k) → all_true b (difference_clauses n d w os ps) ≡ true
differences_met b s t n d v m w [] ps first second h i e = refl
differences_met b s t n d v m w (o ∷ os) [] first second h i e = refl
differences_met b s t n d v m w (o ∷ os) (p ∷ ps) first second h i e =
    let h' = and_parts (nat_lt (var_of o + 0) m) (lits_below 0 m os) h in
    let i' = and_parts (nat_lt (var_of p + d) v) (lits_below d v ps) i in
    let now = at_once b w (differ (lit_true s o ∷ map (lit_true s) os) (lit_true t p ∷ map (lit_true t) ps)) e in
    let one = differ_clause b w o (moved n d p) (now ∙ sym (apart (first o h'.0) (second p i'.0))) in
    let rest = differences_met b s t n d v m (suc w) os ps first second h'.1 i'.1 (λ k x q. e (suc k) x (omega (arith, q))) in
    grind (arith, one, rest)

no_more : (x y : Bool) → cond x (not y) y ≡ false → x ≡ y
no_more x y h = grind arith

same_outputs : (b s t : ℕ → Bool) (w : ℕ) (os ps : List ℕ) → length os ≡ length ps →
    ((k x : ℕ) → x ≡ w + k → b x ≡ differ (map (lit_true s) os) (map (lit_true t) ps) k) → clause_true b (differences w os) ≡ false →
    map (lit_true s) os ≡ map (lit_true t) ps
same_outputs b s t w [] [] h e none = refl
same_outputs b s t w [] (p ∷ ps) h e none = absurd (omega (arith, h))
same_outputs b s t w (o ∷ os) [] h e none = absurd (omega (arith, h))
same_outputs b s t w (o ∷ os) (p ∷ ps) h e none =
    let q = or_parts (lit_true b (lit_of w)) (clause_true b (differences (suc w) os)) none in
    let now = at_once b w (differ (lit_true s o ∷ map (lit_true s) os) (lit_true t p ∷ map (lit_true t) ps)) e in
    let rest = same_outputs b s t (suc w) os ps (omega (arith, h)) (λ k x i. e (suc k) x (omega (arith, i))) q.1 in
    cc (no_more (lit_true s o) (lit_true t p) (sym now ∙ sym (positive b w) ∙ q.0), rest)

-- the clauses of all parts but the last are true, and so the last is not
last_false : (b : ℕ → Bool) (xs ys zs : List (List ℕ)) (c : List ℕ) → all_true b (xs ++ (ys ++ (zs ++ c ∷ []))) ≡ false →
    all_true b xs ≡ true → all_true b ys ≡ true → all_true b zs ≡ true → clause_true b c ≡ false
last_false b xs ys zs c h x y z = grind (
  arith,
  list_all-append (clause_true b) xs (ys ++ (zs ++ c ∷ [])),
  list_all-append (clause_true b) ys (zs ++ c ∷ []),
  list_all-append (clause_true b) zs (c ∷ []),
)

-- the inputs and the constant have the same values in both
same_inputs : (input : ℕ → Bool) (n : ℕ) (gs hs : List Gate) → are_ordered (suc n) gs ≡ true → are_ordered (suc n) hs ≡ true →
    (x : ℕ) → nat_lt x (suc n) ≡ true → simulated input gs x ≡ simulated input hs x
same_inputs input n gs hs g h x lt = kept (with_value input 0 false) (suc n) gs g x lt ∙ sym (kept (with_value input 0 false) (suc n) hs h x lt)

just_it : (x m : ℕ) → nat_lt (x + 0) m ≡ true → nat_lt x m ≡ true
just_it x m h = grind arith

some_first : (n d : ℕ) → nat_lt 0 (suc n + d) ≡ true
some_first n d = grind arith

some_here : (n : ℕ) → nat_lt 0 (suc n) ≡ true
some_here n = grind arith

itself : (n : ℕ) → nat_le (suc n) (suc n) ≡ true
itself n = grind arith

zero_false : (b : ℕ → Bool) → b 0 ≡ false → all_true b ((negate (lit_of 0) ∷ []) ∷ []) ≡ true
zero_false b h = grind arith

both_true : (p q : Bool) → (p && true) ≡ true → q ≡ true → (p && q) ≡ true
both_true p q h k = grind arith

pub same_is_shown : SameIsShown
same_is_shown n d v gates outputs gates' outputs' places refuted input =
    let s = simulated input gates in
    let t = simulated input gates' in
    let e = differ (map (lit_true s) outputs) (map (lit_true t) outputs') in
    let b = joined n d v s t e in
    let same = same_inputs input n gates gates' places.ordered places.ordered' in
    let first : (l : ℕ) → nat_lt (var_of l + 0) (suc n + d) ≡ true → lit_true b l ≡ lit_true s l = λ l h. first_lit n d v s t e l h in
    let first_var : (x : ℕ) → nat_lt (x + 0) (suc n + d) ≡ true → b x ≡ s x = λ x h. in_first n d v s t e x (just_it x (suc n + d) h) in
    let second : (l : ℕ) → nat_lt (var_of l + d) v ≡ true → lit_true b (moved n d l) ≡ lit_true t l = λ l h. moved_lit n d v s t e same places.last l h in
    let second_var : (x : ℕ) → nat_lt x (suc n) ≡ false → nat_lt (x + d) v ≡ true → b (x + d) ≡ t x = λ x h k. in_second n d v s t e x h k in
    let third : (k x : ℕ) → x ≡ v + k → b x ≡ e k = λ k x q. ap b q ∙ in_third n d v s t e k places.last in
    let constant : all_true b ((negate (lit_of 0) ∷ []) ∷ []) ≡ true = zero_false b (in_first n d v s t e 0 (some_first n d) ∙ kept (with_value input 0 false) (suc n) gates places.ordered 0 (some_here n)) in
    let gates_hold = first_met b s (suc n + d) (suc n) gates first first_var places.ordered places.gates_first (run_fits (with_value input 0 false) (suc n) gates places.ordered) in
    let others_hold = second_met b t n d v (suc n) gates' second second_var (itself n) places.ordered' places.gates_second (run_fits (with_value input 0 false) (suc n) gates' places.ordered') in
    let differences_hold = differences_met b s t n d v (suc n + d) v outputs outputs' first second places.outputs_first places.outputs_second third in
    same_outputs b s t v outputs outputs' places.as_many third (last_false b (circuit_clauses gates) (gates_clauses (map (moved_gate n d) gates')) (difference_clauses n d v outputs outputs') (differences v outputs) (refuted b) (both_true (clause_true b (negate (lit_of 0) ∷ [])) (all_true b (gates_clauses gates)) constant gates_hold) others_hold differences_hold)
