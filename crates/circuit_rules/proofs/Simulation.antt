-- A simulation sets each variable once.
use Rattle.std.proofs.Common.{◌≡◌, ℕ, suc, Bool, true, false, cond, not, ◌&&◌, nat_lt, nat_le, List, [], ◌∷◌, refl, ap, sym, ◌∙◌, arith}
use Rattle.std.proofs.lemmas.Bool.{and_parts}
use Rattle.std.proofs.lemmas.List.Folds.{list_all-append}
use Rattle.sat_rules.specs.Clauses.{all_true, clause_true, is_negative, lit_true, var_of}
use Rattle.sat_rules.proofs.Chains.{lit_true-negate}
use Rattle.circuit_rules.specs.Circuits.{CircuitsAreClauses, Gate, are_ordered, circuit_clauses, gate_clauses, gate_value, gates_clauses, lit_of, run_gates, simulated, with_value}
use Rattle.circuit_rules.specs.Checks.{NeverIsShown}

at_it : (a : ℕ → Bool) (v : ℕ) (b : Bool) → with_value a v b v ≡ b
at_it a v b = grind arith

beside_it : (a : ℕ → Bool) (v : ℕ) (b : Bool) (x : ℕ) → nat_lt x v ≡ true → with_value a v b x ≡ a x
beside_it a v b x h = grind arith

beside_lit : (a : ℕ → Bool) (v : ℕ) (b : Bool) (l : ℕ) → nat_lt (var_of l) v ≡ true → lit_true (with_value a v b) l ≡ lit_true a l
beside_lit a v b l h = ap (λ t. cond (is_negative l) (not t) t) (beside_it a v b (var_of l) h)

-- what is known of gates in their order
pub record Ordered (n : ℕ) (g : Gate) (gs : List Gate) : Type 0 where
  pub left : nat_lt (var_of g.left) n ≡ true
  pub right : nat_lt (var_of g.right) n ≡ true
  pub behind : nat_le n g.var ≡ true
  pub rest : are_ordered (suc g.var) gs ≡ true

pub in_order : (n : ℕ) (g : Gate) (gs : List Gate) → are_ordered n (g ∷ gs) ≡ true → Ordered n g gs
in_order n g gs h =
    let p = and_parts (nat_lt (var_of g.left) n && nat_lt (var_of g.right) n) (nat_le n g.var && are_ordered (suc g.var) gs) h in
    let q = and_parts (nat_lt (var_of g.left) n) (nat_lt (var_of g.right) n) p.0 in
    let r = and_parts (nat_le n g.var) (are_ordered (suc g.var) gs) p.1 in
    record { left = q.0; right = q.1; behind = r.0; rest = r.1 }

pub before_it : (x n s : ℕ) → nat_lt x n ≡ true → nat_le n s ≡ true → nat_lt x s ≡ true
before_it x n s h k = grind arith

before_next : (x s : ℕ) → nat_lt x s ≡ true → nat_lt x (suc s) ≡ true
before_next x s h = grind arith

next_to_it : (s : ℕ) → nat_lt s (suc s) ≡ true
next_to_it s = grind arith

-- what is set before the n-th variable stays
pub kept : (a : ℕ → Bool) (n : ℕ) (gs : List Gate) → are_ordered n gs ≡ true → (x : ℕ) → nat_lt x n ≡ true → run_gates a gs x ≡ a x
kept a n [] h x lt = refl
kept a n (g ∷ gs) h x lt =
    let o = in_order n g gs h in
    let lower = before_it x n g.var lt o.behind in
    kept (with_value a g.var (gate_value a g)) (suc g.var) gs o.rest x (before_next x g.var lower) ∙ beside_it a g.var (gate_value a g) x lower

pub kept_lit : (a : ℕ → Bool) (n : ℕ) (gs : List Gate) → are_ordered n gs ≡ true → (l : ℕ) → nat_lt (var_of l) n ≡ true → lit_true (run_gates a gs) l ≡ lit_true a l
kept_lit a n gs h l lt = ap (λ b. cond (is_negative l) (not b) b) (kept a n gs h (var_of l) lt)

pub positive : (b : ℕ → Bool) (v : ℕ) → lit_true b (lit_of v) ≡ b v
positive b v = grind arith

pub gate_met : (b : ℕ → Bool) (g : Gate) → b g.var ≡ gate_value b g → all_true b (gate_clauses g) ≡ true
gate_met b g h = grind (arith, positive b g.var, lit_true-negate b (lit_of g.var), lit_true-negate b g.left, lit_true-negate b g.right)

pub both : {p q r s : Bool} → p ≡ r → q ≡ s → (p && q) ≡ (r && s)
both h k = cc (h, k)

-- a gate has its value in the end
set_in_the_end : (a : ℕ → Bool) (n : ℕ) (g : Gate) (gs : List Gate) → are_ordered n (g ∷ gs) ≡ true →
    run_gates (with_value a g.var (gate_value a g)) gs g.var ≡ gate_value (run_gates (with_value a g.var (gate_value a g)) gs) g
set_in_the_end a n g gs h =
    let o = in_order n g gs h in
    let c = with_value a g.var (gate_value a g) in
    let l = before_it (var_of g.left) n g.var o.left o.behind in
    let r = before_it (var_of g.right) n g.var o.right o.behind in
    let left = kept_lit c (suc g.var) gs o.rest g.left (before_next (var_of g.left) g.var l) ∙ beside_lit a g.var (gate_value a g) g.left l in
    let right = kept_lit c (suc g.var) gs o.rest g.right (before_next (var_of g.right) g.var r) ∙ beside_lit a g.var (gate_value a g) g.right r in
    kept c (suc g.var) gs o.rest g.var (next_to_it g.var) ∙ at_it a g.var (gate_value a g) ∙ sym (both left right)

-- gates in their order: each has its value in the end
pub gates_met : (a : ℕ → Bool) (n : ℕ) (gs : List Gate) → are_ordered n gs ≡ true → all_true (run_gates a gs) (gates_clauses gs) ≡ true
gates_met a n [] h = refl
gates_met a n (g ∷ gs) h =
    let c = with_value a g.var (gate_value a g) in
    grind (
      arith,
      gate_met (run_gates c gs) g,
      gates_met c (suc g.var) gs,
      list_all-append (clause_true (run_gates c gs)) (gate_clauses g) (gates_clauses gs),
      set_in_the_end a n g gs h,
      in_order n g gs h,
    )

-- each gate has its value
abbrev pub Fits : (ℕ → Bool) → List Gate → Type 0
Fits s [] = Unit {0}
Fits s (g ∷ gs) = (s g.var ≡ gate_value s g) × Fits s gs

pub run_fits : (a : ℕ → Bool) (n : ℕ) (gs : List Gate) → are_ordered n gs ≡ true → Fits (run_gates a gs) gs
run_fits a n [] h = tt
run_fits a n (g ∷ gs) h = (set_in_the_end a n g gs h, run_fits (with_value a g.var (gate_value a g)) (suc g.var) gs ((in_order n g gs h).rest))

pub circuits_are_clauses : CircuitsAreClauses
circuits_are_clauses n gs h input = grind (arith, gates_met (with_value input 0 false) (suc n) gs h, kept (with_value input 0 false) (suc n) gs h 0)

pub never_is_shown : NeverIsShown
never_is_shown n gs outputs h refuted input =
    grind (arith, refuted (simulated input gs), circuits_are_clauses n gs h input, list_all-append (clause_true (simulated input gs)) (circuit_clauses gs) (outputs ∷ []))
