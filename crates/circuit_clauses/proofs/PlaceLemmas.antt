-- The places of gates in order, further on and one circuit behind the other.
use Rattle.std.proofs.Common.{inl, inr, ◌≡◌, ℕ, suc, ◌+◌, ◌*◌, ◌<◌, ◌≤◌, Bool, true, false, cond, ◌&&◌, nat_lt, nat_le, List, [], ◌∷◌, ◌++◌, map, length, get_or, refl, ap, sym, ◌∙◌, arith}
use Rattle.std.specs.List.{list_all}
use Rattle.std.proofs.lemmas.Bool.{and_from, and_parts, cases_Bool, false≢true, le-leb, leb-true, lt-ltb, ltb-true}
use Rattle.std.proofs.lemmas.List.Folds.{list_all-map, list_all_at}
use Rattle.sat_rules.specs.Clauses.{var_of}
use Rattle.circuit_rules.specs.Circuits.{Gate, Latch, are_ordered}
use Rattle.circuit_rules.specs.Checks.{gates_below, lits_below, moved, moved_gate}
use Rattle.circuit_rules.specs.Safety.{latches_below}
use Rattle.circuit_rules.proofs.Simulation.{in_order}

-- ---- tests of lists

-- what passes one test passes another
pub all_weaker : {X : Type 0} (p q : X → Bool) → ((x : X) → p x ≡ true → q x ≡ true) → (xs : List X) → list_all p xs ≡ true → list_all q xs ≡ true
all_weaker p q weaker [] h = refl
all_weaker p q weaker (x ∷ xs) h =
    let s = and_parts (p x) (list_all p xs) h in
    and_from (q x) (list_all q xs) (weaker x s.0) (all_weaker p q weaker xs s.1)

-- the element at an index
pub at_index : {X : Type 0} (p : X → Bool) (xs : List X) (i : ℕ) (x : X) → list_all p xs ≡ true → i < length xs → x ≡ get_or xs i x → p x ≡ true
at_index p xs i x h less is =
    elim (cases_Bool (p (get_or xs i x))) as (λ c. p x ≡ true) [ inl e ↦ ap p is ∙ e | inr e ↦ absurd (false≢true (sym (list_all_at p xs i x less e) ∙ h)) ]

pub at_mapped : {X Y : Type 0} (p : Y → Bool) (f : X → Y) (xs : List X) (i : ℕ) (x : X) → list_all p (map f xs) ≡ true → i < length xs → x ≡ get_or xs i x → p (f x) ≡ true
at_mapped p f xs i x h less is = at_index (λ y. p (f y)) xs i x (sym (list_all-map p f xs) ∙ h) less is

-- ---- limits

further : (x d v e w : ℕ) → v + e ≤ w + d → nat_lt (x + d) v ≡ true → nat_lt (x + e) w ≡ true
further x d v e w le h = lt-ltb (x + e) w (omega (arith, ltb-true (x + d) v h))

pub gates_further : (d v e w : ℕ) (gs : List Gate) → v + e ≤ w + d → gates_below d v gs ≡ true → gates_below e w gs ≡ true
gates_further d v e w gs le h = all_weaker (λ g. nat_lt (g.var + d) v) (λ g. nat_lt (g.var + e) w) (λ g. further g.var d v e w le) gs h

pub lits_further : (d v e w : ℕ) (ls : List ℕ) → v + e ≤ w + d → lits_below d v ls ≡ true → lits_below e w ls ≡ true
lits_further d v e w ls le h = all_weaker (λ l. nat_lt (var_of l + d) v) (λ l. nat_lt (var_of l + e) w) (λ l. further (var_of l) d v e w le) ls h

-- ---- literals and gates further on

moved_by : (b : Bool) (l d w : ℕ) → var_of l + d < w → var_of (cond b l (l + 2 * d)) < w
moved_by true l d w h = omega (arith, h)
moved_by false l d w h = let e : var_of (l + 2 * d) ≡ var_of l + d = omega arith in omega (arith, e, h)

pub moved_below : (n d l w : ℕ) → var_of l + d < w → var_of (moved n d l) < w
moved_below n d l w h = moved_by (nat_lt (var_of l) (suc n)) l d w h

moved_test : (n d l k : ℕ) → nat_lt (var_of l) k ≡ true → nat_lt (var_of (moved n d l)) (k + d) ≡ true
moved_test n d l k h = lt-ltb (var_of (moved n d l)) (k + d) (moved_below n d l (k + d) (omega (arith, ltb-true (var_of l) k h)))

one_first : (n : ℕ) (g : Gate) (gs : List Gate) → nat_lt (var_of g.left) n ≡ true → nat_lt (var_of g.right) n ≡ true → nat_le n g.var ≡ true →
    are_ordered (suc g.var) gs ≡ true → are_ordered n (g ∷ gs) ≡ true
one_first n g gs left right behind rest =
    and_from (nat_lt (var_of g.left) n && nat_lt (var_of g.right) n) (nat_le n g.var && are_ordered (suc g.var) gs)
    (and_from (nat_lt (var_of g.left) n) (nat_lt (var_of g.right) n) left right) (and_from (nat_le n g.var) (are_ordered (suc g.var) gs) behind rest)

-- gates stay in order, further on
pub moved_ordered : (n d k : ℕ) (gs : List Gate) → are_ordered k gs ≡ true → are_ordered (k + d) (map (moved_gate n d) gs) ≡ true
moved_ordered n d k [] h = refl
moved_ordered n d k (g ∷ gs) h =
    let o = in_order k g gs h in
    let e : suc (g.var + d) ≡ suc g.var + d = omega arith in
    one_first (k + d) (moved_gate n d g) (map (moved_gate n d) gs) (moved_test n d g.left k o.left) (moved_test n d g.right k o.right)
    (le-leb (k + d) (g.var + d) (omega (arith, leb-true k g.var o.behind)))
    (ap (λ m. are_ordered m (map (moved_gate n d) gs)) e ∙ moved_ordered n d (suc g.var) gs o.rest)

-- ---- gates behind gates

-- gates in order take a variable each
length_ordered : (k v : ℕ) (gs : List Gate) → k ≤ v → are_ordered k gs ≡ true → gates_below 0 v gs ≡ true → k + length gs ≤ v
length_ordered k v [] le h below = omega (arith, le)
length_ordered k v (g ∷ gs) le h below =
    let o = in_order k g gs h in
    let p = and_parts (nat_lt (g.var + 0) v) (gates_below 0 v gs) below in
    let rest = length_ordered (suc g.var) v gs (omega (arith, ltb-true (g.var + 0) v p.0)) o.rest p.1 in
    omega (arith, leb-true k g.var o.behind, rest)

-- so those behind them come after the last one, where they leave none out
pub ordered_append : (k : ℕ) (gs hs : List Gate) → are_ordered k gs ≡ true → gates_below 0 (k + length gs) gs ≡ true → are_ordered (k + length gs) hs ≡ true →
    are_ordered k (gs ++ hs) ≡ true
ordered_append k [] hs h below after = let e : k ≡ k + 0 = omega arith in ap (λ m. are_ordered m hs) e ∙ after
ordered_append k (g ∷ gs) hs h below after =
    let o = in_order k g gs h in
    let p = and_parts (nat_lt (g.var + 0) (k + length (g ∷ gs))) (gates_below 0 (k + length (g ∷ gs)) gs) below in
    let first : suc g.var ≤ k + length (g ∷ gs) = omega (arith, ltb-true (g.var + 0) (k + length (g ∷ gs)) p.0) in
    let last = length_ordered (suc g.var) (k + length (g ∷ gs)) gs first o.rest p.1 in
    let e : suc g.var + length gs ≡ k + length (g ∷ gs) = omega (arith, leb-true k g.var o.behind, last) in
    one_first k g (gs ++ hs) o.left o.right o.behind
    (ordered_append (suc g.var) gs hs o.rest (ap (λ m. gates_below 0 m gs) e ∙ p.1) (ap (λ m. are_ordered m hs) e ∙ after))

-- ---- what a formula can have

fits : (x d v m : ℕ) → x < v → v + d ≤ m → nat_lt (x + d) m ≡ true
fits x d v m less le = lt-ltb (x + d) m (omega (arith, less, le))

gate_fitting : (d m : ℕ) (g : Gate) → nat_lt (g.var + d) m ≡ true → nat_lt (var_of g.left + d) m ≡ true → nat_lt (var_of g.right + d) m ≡ true →
    (nat_lt (g.var + d) m && nat_lt (var_of g.left + d) m && nat_lt (var_of g.right + d) m) ≡ true
gate_fitting d m g var left right =
    and_from (nat_lt (g.var + d) m && nat_lt (var_of g.left + d) m) (nat_lt (var_of g.right + d) m)
    (and_from (nat_lt (g.var + d) m) (nat_lt (var_of g.left + d) m) var left) right

-- gates in order that are below a limit read variables below it
pub ordered_fit : (d k v m : ℕ) (gs : List Gate) → k ≤ v → v + d ≤ m → are_ordered k gs ≡ true → gates_below 0 v gs ≡ true →
    list_all (λ g. nat_lt (g.var + d) m && nat_lt (var_of g.left + d) m && nat_lt (var_of g.right + d) m) gs ≡ true
ordered_fit d k v m [] le room h below = refl
ordered_fit d k v m (g ∷ gs) le room h below =
    let o = in_order k g gs h in
    let p = and_parts (nat_lt (g.var + 0) v) (gates_below 0 v gs) below in
    let here : g.var < v = omega (arith, ltb-true (g.var + 0) v p.0) in
    let left : var_of g.left < v = omega (arith, ltb-true (var_of g.left) k o.left, le) in
    let right : var_of g.right < v = omega (arith, ltb-true (var_of g.right) k o.right, le) in
    and_from (nat_lt (g.var + d) m && nat_lt (var_of g.left + d) m && nat_lt (var_of g.right + d) m)
    (list_all (λ h. nat_lt (h.var + d) m && nat_lt (var_of h.left + d) m && nat_lt (var_of h.right + d) m) gs)
    (gate_fitting d m g (fits g.var d v m here room) (fits (var_of g.left) d v m left room) (fits (var_of g.right) d v m right room))
    (ordered_fit d (suc g.var) v m gs (omega (arith, here)) room o.rest p.1)

latch_fitting : (n p d m : ℕ) → n + d < m → (x : Latch) → ((nat_lt 0 x.var && nat_lt x.var (suc n)) && nat_lt (var_of x.next + 0) p) ≡ true → nat_lt (x.var + d) m ≡ true
latch_fitting n p d m room x h =
    let q = and_parts (nat_lt 0 x.var && nat_lt x.var (suc n)) (nat_lt (var_of x.next + 0) p) h in
    let r = and_parts (nat_lt 0 x.var) (nat_lt x.var (suc n)) q.0 in
    lt-ltb (x.var + d) m (omega (arith, ltb-true x.var (suc n) r.1, room))

pub latches_fitting : (n p d m : ℕ) (xs : List Latch) → n + d < m → latches_below n p xs ≡ true → list_all (λ x. nat_lt (x.var + d) m) xs ≡ true
latches_fitting n p d m xs room h =
    all_weaker (λ x. (nat_lt 0 x.var && nat_lt x.var (suc n)) && nat_lt (var_of x.next + 0) p) (λ x. nat_lt (x.var + d) m) (latch_fitting n p d m room) xs h
