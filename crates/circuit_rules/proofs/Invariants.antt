-- An invariant is carried from each step of a run to the next.
use Rattle.std.proofs.Common.{◌≡◌, ℕ, zero, suc, ◌+◌, ◌≤◌, Bool, true, false, cond, not, ◌&&◌, nat_lt, nat_le, List, [], ◌∷◌, ◌++◌, map, Option, Some, None, refl, ap, sym, ◌∙◌, arith}
use Rattle.std.proofs.lemmas.Bool.{and_parts, ltb-true}
use Rattle.std.proofs.lemmas.List.Folds.{list_all-append}
use Rattle.sat_rules.specs.Clauses.{all_true, clause_true, is_negative, lit_true, negate, var_of}
use Rattle.sat_rules.proofs.Chains.{lit_true-negate}
use Rattle.refutation_rules.specs.Cubes.{IsRefuted, units_of}
use Rattle.circuit_rules.specs.Circuits.{Gate, Latch, are_ordered, circuit_clauses, gate_value, gates_clauses, lit_of, run_gates, simulated, with_value}
use Rattle.circuit_rules.specs.Checks.{any_output, gates_below, lits_below, moved, moved_gate}
use Rattle.circuit_rules.specs.Safety.{GoesOn, HaveSteps, IsReset, IsRun, Machine, SafeIsShown, Starts, first_clauses, latches_below, lits_true, reset_clause, reset_clauses, stay_clauses, step_clauses}
use Rattle.circuit_rules.proofs.Simulation.{circuits_are_clauses, kept, positive, run_fits}
use Rattle.circuit_rules.proofs.Joined.{first_met, in_first, in_second, joined, moved_lit, second_met}

run_append : (a : ℕ → Bool) (gs hs : List Gate) → run_gates a (gs ++ hs) ≡ run_gates (run_gates a gs) hs
run_append a [] hs = refl
run_append a (g ∷ gs) hs = run_append (with_value a g.var (gate_value a g)) gs hs

-- further gates leave the variables before p
same_before : (input : ℕ → Bool) (p : ℕ) (gs more : List Gate) → are_ordered p more ≡ true → (x : ℕ) → nat_lt x p ≡ true → simulated input (gs ++ more) x ≡ simulated input gs x
same_before input p gs more h x lt = ap (λ (f : ℕ → Bool). f x) (run_append (with_value input 0 false) gs more) ∙ kept (run_gates (with_value input 0 false) gs) p more h x lt

no_move : (x m : ℕ) → nat_lt (x + 0) m ≡ true → nat_lt x m ≡ true
no_move x m h = grind arith

same_lit : (a b : ℕ → Bool) (l : ℕ) → a (var_of l) ≡ b (var_of l) → lit_true a l ≡ lit_true b l
same_lit a b l h = ap (λ t. cond (is_negative l) (not t) t) h

same_all : (a b : ℕ → Bool) (p : ℕ) (ls : List ℕ) → ((l : ℕ) → nat_lt (var_of l + 0) p ≡ true → lit_true a l ≡ lit_true b l) → lits_below 0 p ls ≡ true → lits_true a ls ≡ lits_true b ls
same_all a b p [] h i = refl
same_all a b p (l ∷ ls) h i = let q = and_parts (nat_lt (var_of l + 0) p) (lits_below 0 p ls) i in cc (h l q.0, same_all a b p ls h q.1)

same_any : (a b : ℕ → Bool) (p : ℕ) (ls : List ℕ) → ((l : ℕ) → nat_lt (var_of l + 0) p ≡ true → lit_true a l ≡ lit_true b l) → lits_below 0 p ls ≡ true → any_output a ls ≡ any_output b ls
same_any a b p [] h i = refl
same_any a b p (l ∷ ls) h i = let q = and_parts (nat_lt (var_of l + 0) p) (lits_below 0 p ls) i in cc (h l q.0, same_any a b p ls h q.1)

units_true : (a : ℕ → Bool) (ls : List ℕ) → lits_true a ls ≡ true → all_true a (units_of ls) ≡ true
units_true a [] h = refl
units_true a (l ∷ ls) h = let q = and_parts (lit_true a l) (lits_true a ls) h in grind (arith, q.0, units_true a ls q.1)

-- ---- the first step

reset_met : (a : ℕ → Bool) (v : ℕ) (r : Option Bool) → IsReset r (a v) → all_true a (reset_clause v r) ≡ true
reset_met a v None h = refl
reset_met a v (Some true) h = grind (arith, positive a v, h)
reset_met a v (Some false) h = grind (arith, positive a v, lit_true-negate a (lit_of v), h)

resets_met : (a : ℕ → Bool) (xs : List Latch) → Starts a xs → all_true a (reset_clauses xs) ≡ true
resets_met a [] h = refl
resets_met a (x ∷ xs) h = grind (arith, list_all-append (clause_true a) (reset_clause x.var x.reset) (reset_clauses xs), reset_met a x.var x.reset h.0, resets_met a xs h.1)

-- ---- a step

step_met : (b : ℕ → Bool) (w l : ℕ) → b w ≡ lit_true b l → all_true b ((negate (lit_of w) ∷ l ∷ []) ∷ (lit_of w ∷ negate l ∷ []) ∷ []) ≡ true
step_met b w l h = grind (arith, positive b w, lit_true-negate b (lit_of w), lit_true-negate b l)

-- what is known of a latch among gates'
record Placed (n p : ℕ) (x : Latch) (xs : List Latch) : Type 0 where
  some : nat_lt 0 x.var ≡ true
  here : nat_lt x.var (suc n) ≡ true
  next : nat_lt (var_of x.next + 0) p ≡ true
  rest : latches_below n p xs ≡ true

placed : (n p : ℕ) (x : Latch) (xs : List Latch) → latches_below n p (x ∷ xs) ≡ true → Placed n p x xs
placed n p x xs h =
    let q = and_parts ((nat_lt 0 x.var && nat_lt x.var (suc n)) && nat_lt (var_of x.next + 0) p) (latches_below n p xs) h in
    let r = and_parts (nat_lt 0 x.var && nat_lt x.var (suc n)) (nat_lt (var_of x.next + 0) p) q.0 in
    let t = and_parts (nat_lt 0 x.var) (nat_lt x.var (suc n)) r.0 in
    record { some = t.0; here = t.1; next = r.1; rest = q.1 }

reset_same : (r : Option Bool) (x y : Bool) → y ≡ x → IsReset r x → IsReset r y
reset_same None x y e h = tt
reset_same (Some b) x y e h = e ∙ h

starts_same : (a c : ℕ → Bool) (n p : ℕ) (xs : List Latch) → ((x : ℕ) → nat_lt 0 x ≡ true → nat_lt x (suc n) ≡ true → c x ≡ a x) → latches_below n p xs ≡ true → Starts a xs → Starts c xs
starts_same a c n p [] same h s = tt
starts_same a c n p (x ∷ xs) same h s = let q = placed n p x xs h in
    (reset_same x.reset (a x.var) (c x.var) (same x.var q.some q.here) s.0, starts_same a c n p xs same q.rest s.1)

steps_met : (b now after : ℕ → Bool) (n p d : ℕ) (xs : List Latch) → ((l : ℕ) → nat_lt (var_of l + 0) p ≡ true → lit_true b l ≡ lit_true now l) →
    ((x : ℕ) → nat_lt 0 x ≡ true → nat_lt x (suc n) ≡ true → b (x + d) ≡ after x) → latches_below n p xs ≡ true → GoesOn now after xs → all_true b (step_clauses d xs) ≡ true
steps_met b now after n p d [] lits vars h g = refl
steps_met b now after n p d (x ∷ xs) lits vars h g =
    let q = placed n p x xs h in
    let one = step_met b (x.var + d) x.next (vars x.var q.some q.here ∙ g.0 ∙ sym (lits x.next q.next)) in
    grind (arith, one, steps_met b now after n p d xs lits vars q.rest g.1)

-- ---- what a refuted formula leaves

last_of_3 : (a : ℕ → Bool) (xs ys : List (List ℕ)) (l : ℕ) → all_true a (xs ++ (ys ++ (negate l ∷ []) ∷ [])) ≡ false → all_true a xs ≡ true → all_true a ys ≡ true → lit_true a l ≡ true
last_of_3 a xs ys l h x y = grind (
  arith,
  list_all-append (clause_true a) xs (ys ++ (negate l ∷ []) ∷ []),
  list_all-append (clause_true a) ys ((negate l ∷ []) ∷ []),
  lit_true-negate a l,
)

last_of_4 : (a : ℕ → Bool) (xs ys : List (List ℕ)) (l : ℕ) (c : List ℕ) → all_true a (xs ++ (ys ++ (l ∷ []) ∷ c ∷ [])) ≡ false →
    all_true a xs ≡ true → all_true a ys ≡ true → lit_true a l ≡ true → clause_true a c ≡ false
last_of_4 a xs ys l c h x y i = grind (arith, list_all-append (clause_true a) xs (ys ++ (l ∷ []) ∷ c ∷ []), list_all-append (clause_true a) ys ((l ∷ []) ∷ c ∷ []))

behind : (a : ℕ → Bool) (xs ys : List (List ℕ)) → all_true a (xs ++ ys) ≡ false → all_true a xs ≡ true → all_true a ys ≡ false
behind a xs ys h x = grind (arith, list_all-append (clause_true a) xs ys)

negated_false : (a : ℕ → Bool) (l : ℕ) → clause_true a (negate l ∷ []) ≡ false → lit_true a l ≡ true
negated_false a l h = grind (arith, lit_true-negate a l)

within : (x d : ℕ) → nat_lt x (suc d) ≡ true → nat_lt x (suc 0 + d) ≡ true
within x d h = grind arith

below_p : (x p d : ℕ) → nat_lt (x + 0) p ≡ true → nat_lt (suc d) p ≡ false → nat_lt x (suc 0 + d) ≡ true
below_p x p d h i = grind arith

below_more : (d m n : ℕ) (gs : List Gate) → m ≡ n → gates_below d m gs ≡ true → gates_below d n gs ≡ true
below_more d m n gs e h = ap (λ k. gates_below d k gs) (sym e) ∙ h

no_more : (x : ℕ) → nat_lt x (suc 0) ≡ true → 0 ≡ x
no_more x h = omega (arith, ltb-true x (suc 0) h)

-- ---- runs

beside_zero : (input : ℕ → Bool) (x : ℕ) → nat_lt 0 x ≡ true → with_value input 0 false x ≡ input x
beside_zero input x h = grind arith

some_here : (n : ℕ) → nat_lt 0 (suc n) ≡ true
some_here n = grind arith

at_least : (n : ℕ) → nat_le (suc 0) (suc n) ≡ true
at_least n = grind arith

not_zero : (x : ℕ) → nat_lt 0 x ≡ true → nat_lt x (suc 0) ≡ false
not_zero x h = grind arith

before_last : (n d v : ℕ) → nat_lt (n + d) v ≡ true → nat_lt v (suc 0 + d) ≡ false
before_last n d v h = grind arith

before_v : (x n d v : ℕ) → nat_lt x (suc n) ≡ true → nat_lt (n + d) v ≡ true → nat_lt (x + d) v ≡ true
before_v x n d v h k = grind arith

with_constant : (b : ℕ → Bool) (cs : List (List ℕ)) → b 0 ≡ false → all_true b cs ≡ true → all_true b ((negate (lit_of 0) ∷ []) ∷ cs) ≡ true
with_constant b cs h k = grind arith

-- inputs and latches have the values that are given
at_given : (input : ℕ → Bool) (n : ℕ) (gs : List Gate) → are_ordered (suc n) gs ≡ true → (x : ℕ) → nat_lt 0 x ≡ true → nat_lt x (suc n) ≡ true → simulated input gs x ≡ input x
at_given input n gs h x some here = kept (with_value input 0 false) (suc n) gs h x here ∙ beside_zero input x some

constant_false : (input : ℕ → Bool) (n : ℕ) (gs : List Gate) → are_ordered (suc n) gs ≡ true → simulated input gs 0 ≡ false
constant_false input n gs h = kept (with_value input 0 false) (suc n) gs h 0 (some_here n)

-- two steps side by side
module _ (n p d v : ℕ) (m : Machine) (more : List Gate) (inv : ℕ) (h : HaveSteps n p d v m more inv) (stay : IsRefuted (stay_clauses d (m.gates ++ more) m inv)) (now after : ℕ → Bool) where
  abbrev s : ℕ → Bool
  s = simulated now (m.gates ++ more)

  abbrev t : ℕ → Bool
  t = simulated after (m.gates ++ more)

  abbrev b : ℕ → Bool
  b = joined 0 d v (simulated now (m.gates ++ more)) (simulated after (m.gates ++ more)) now

  last : nat_lt v (suc 0 + d) ≡ false
  last = before_last n d v h.inputs_second

  same : (x : ℕ) → nat_lt x (suc 0) ≡ true → simulated now (m.gates ++ more) x ≡ simulated after (m.gates ++ more) x
  same x lt = ap (simulated now (m.gates ++ more)) (sym (no_more x lt)) ∙ constant_false now n (m.gates ++ more) h.all_ordered ∙ sym (constant_false after n (m.gates ++ more) h.all_ordered) ∙ ap (simulated after (m.gates ++ more)) (no_more x lt)

  first_var : (x : ℕ) → nat_lt x (suc 0 + d) ≡ true → b x ≡ s x
  first_var x lt = in_first 0 d v (simulated now (m.gates ++ more)) (simulated after (m.gates ++ more)) now x lt

  second_var : (x : ℕ) → nat_lt x (suc 0) ≡ false → nat_lt (x + d) v ≡ true → b (x + d) ≡ t x
  second_var x ge lt = in_second 0 d v (simulated now (m.gates ++ more)) (simulated after (m.gates ++ more)) now x ge lt

  second_lit : (l : ℕ) → nat_lt (var_of l + d) v ≡ true → lit_true b (moved 0 d l) ≡ lit_true t l
  second_lit l lt = moved_lit 0 d v (simulated now (m.gates ++ more)) (simulated after (m.gates ++ more)) now same last l lt

  circuit_met : all_true b (circuit_clauses (m.gates ++ more)) ≡ true
  circuit_met = with_constant b (gates_clauses (m.gates ++ more)) (first_var 0 (within 0 d (some_here d)) ∙ constant_false now n (m.gates ++ more) h.all_ordered)
      (first_met b s (suc 0 + d) (suc n) (m.gates ++ more) (λ l lt. same_lit b s l (first_var (var_of l) (no_move (var_of l) (suc 0 + d) lt))) (λ x lt. first_var x (no_move x (suc 0 + d) lt))
      h.all_ordered (below_more 0 (suc d) (suc 0 + d) (m.gates ++ more) (omega arith) h.gates_first) (run_fits (with_value now 0 false) (suc n) (m.gates ++ more) h.all_ordered))

  copy_met : all_true b (gates_clauses (map (moved_gate 0 d) (m.gates ++ more))) ≡ true
  copy_met = second_met b t 0 d v (suc n) (m.gates ++ more) second_lit second_var (at_least n) h.all_ordered h.gates_second (run_fits (with_value after 0 false) (suc n) (m.gates ++ more) h.all_ordered)

  -- the literals before p have the values that the machine's own gates give
  by_machine : (l : ℕ) → nat_lt (var_of l + 0) p ≡ true → lit_true b l ≡ lit_true (simulated now m.gates) l
  by_machine l lt = same_lit b (simulated now m.gates) l (first_var (var_of l) (below_p (var_of l) p d lt h.p_first) ∙ same_before now p m.gates more h.more_ordered (var_of l) (no_move (var_of l) p lt))

  steps : GoesOn (simulated now m.gates) after m.latches → all_true b (step_clauses d m.latches) ≡ true
  steps g = steps_met b (simulated now m.gates) after n p d m.latches by_machine
      (λ x some here. second_var x (not_zero x some) (before_v x n d v here h.inputs_second) ∙ at_given after n (m.gates ++ more) h.all_ordered x some here) h.latches_first g

  goes : GoesOn (simulated now m.gates) after m.latches → lits_true (simulated now m.gates) m.constraints ≡ true → lit_true (simulated now (m.gates ++ more)) inv ≡ true → lit_true (simulated after (m.gates ++ more)) inv ≡ true
  goes g met holds =
      let u = behind b (circuit_clauses (m.gates ++ more)) (gates_clauses (map (moved_gate 0 d) (m.gates ++ more)) ++ (step_clauses d m.latches ++ (units_of m.constraints ++ (inv ∷ []) ∷ (negate (moved 0 d inv) ∷ []) ∷ []))) (stay b) circuit_met in
      let w = behind b (gates_clauses (map (moved_gate 0 d) (m.gates ++ more))) (step_clauses d m.latches ++ (units_of m.constraints ++ (inv ∷ []) ∷ (negate (moved 0 d inv) ∷ []) ∷ [])) u copy_met in
      let c = last_of_4 b (step_clauses d m.latches) (units_of m.constraints) inv (negate (moved 0 d inv) ∷ []) w (steps g)
      (units_true b m.constraints (same_all b (simulated now m.gates) p m.constraints by_machine h.constraints_first ∙ met))
      (same_lit b s inv (first_var (var_of inv) (within (var_of inv) d (no_move (var_of inv) (suc d) h.inv_first))) ∙ holds) in
      sym (second_lit inv h.inv_second) ∙ negated_false b (moved 0 d inv) c

-- the invariant is true at each step up to which the constraints are true
holds : (n p d v : ℕ) (m : Machine) (more : List Gate) (inv : ℕ) → HaveSteps n p d v m more inv →
    IsRefuted (first_clauses (m.gates ++ more) m inv) → IsRefuted (stay_clauses d (m.gates ++ more) m inv) →
    (given : ℕ → ℕ → Bool) → IsRun m given → (k : ℕ) → ((j : ℕ) → j ≤ k → lits_true (simulated (given j) m.gates) m.constraints ≡ true) →
    lit_true (simulated (given k) (m.gates ++ more)) inv ≡ true
holds n p d v m more inv h first stay given run zero met =
    let a = simulated (given 0) (m.gates ++ more) in
    last_of_3 a (circuit_clauses (m.gates ++ more)) (reset_clauses m.latches) inv (first a) (circuits_are_clauses n (m.gates ++ more) h.all_ordered (given 0))
    (resets_met a m.latches (starts_same (given 0) a n p m.latches (at_given (given 0) n (m.gates ++ more) h.all_ordered) h.latches_first run.starts))
holds n p d v m more inv h first stay given run (suc k) met =
    goes n p d v m more inv h stay (given k) (given (suc k)) (run.goes_on k) (met k (omega arith))
    (holds n p d v m more inv h first stay given run k (λ j q. met j (omega (arith, q))))

pub safe_is_shown : SafeIsShown
safe_is_shown n p d v m more inv h first stay bad given run k met =
    let a = simulated (given k) (m.gates ++ more) in
    let now = simulated (given k) m.gates in
    let same : (l : ℕ) → nat_lt (var_of l + 0) p ≡ true → lit_true a l ≡ lit_true now l = λ l lt. same_lit a now l (same_before (given k) p m.gates more h.more_ordered (var_of l) (no_move (var_of l) p lt)) in
    sym (same_any a now p m.bad same h.bad_first)
    ∙ last_of_4 a (circuit_clauses (m.gates ++ more)) (units_of m.constraints) inv m.bad (bad a) (circuits_are_clauses n (m.gates ++ more) h.all_ordered (given k))
    (units_true a m.constraints (same_all a now p m.constraints same h.constraints_first ∙ met k (omega arith))) (holds n p d v m more inv h first stay given run k met)
