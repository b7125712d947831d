-- Circuits with latches, and invariants that exclude a bad output for ever.
--     IsRun m given      the values of inputs and latches at each step
--     IsSafe m      in no run, at no step, a bad output is true
--     SafeIsShown      a machine is safe if three formulas are refuted
use Rattle.std.specs.Prelude.{◌≡◌, ℕ, suc, ◌+◌, ◌≤◌, Bool, true, false, ◌&&◌, nat_lt, List, [], ◌∷◌, ◌++◌, map, Option, Some, None}
use Rattle.std.specs.List.{list_all}
use Rattle.sat_rules.specs.Clauses.{lit_true, negate, var_of}
use Rattle.refutation_rules.specs.Cubes.{IsRefuted, units_of}
use Rattle.circuit_rules.specs.Circuits.{Gate, Latch, are_ordered, circuit_clauses, gates_clauses, lit_of, simulated}
use Rattle.circuit_rules.specs.Checks.{any_output, gates_below, lits_below, moved, moved_gate}

-- a circuit with latches; literals that are assumed to be true at each step; and bad outputs
pub record Machine : Type 0 where
  pub gates : List Gate
  pub latches : List Latch
  pub constraints : List ℕ
  pub bad : List ℕ

-- b is the first value of a latch with this reset
abbrev pub IsReset : Option Bool → Bool → Type 0
IsReset None b = Unit {0}
IsReset (Some r) b = b ≡ r

-- the latches have their first values
abbrev pub Starts : (ℕ → Bool) → List Latch → Type 0
Starts a [] = Unit {0}
Starts a (x ∷ xs) = IsReset x.reset (a x.var) × Starts a xs

-- each latch has the value that its next literal had one step before
abbrev pub GoesOn : (ℕ → Bool) → (ℕ → Bool) → List Latch → Type 0
GoesOn now after [] = Unit {0}
GoesOn now after (x ∷ xs) = (after x.var ≡ lit_true now x.next) × GoesOn now after xs

-- the values of inputs and latches at each step; those of inputs are free
pub record IsRun (m : Machine) (given : ℕ → ℕ → Bool) : Type 0 where
  pub starts : Starts (given 0) m.latches
  pub goes_on : (k : ℕ) → GoesOn (simulated (given k) m.gates) (given (suc k)) m.latches

-- all literals are true
abbrev pub lits_true : (ℕ → Bool) → List ℕ → Bool
lits_true a lits = list_all (lit_true a) lits

-- in no run, at no step up to which the constraints are true, a bad output is true
abbrev pub IsSafe : Machine → Type 0
IsSafe m = (given : ℕ → ℕ → Bool) → IsRun m given → (k : ℕ) →
    ((j : ℕ) → j ≤ k → lits_true (simulated (given j) m.gates) m.constraints ≡ true) →
    any_output (simulated (given k) m.gates) m.bad ≡ false

-- ---- formulas

-- the first value of a variable
abbrev pub reset_clause : ℕ → Option Bool → List (List ℕ)
reset_clause v None = []
reset_clause v (Some true) = (lit_of v ∷ []) ∷ []
reset_clause v (Some false) = (negate (lit_of v) ∷ []) ∷ []

-- the first values of the latches
abbrev pub reset_clauses : List Latch → List (List ℕ)
reset_clauses [] = []
reset_clauses (x ∷ xs) = reset_clause x.var x.reset ++ reset_clauses xs

-- the latches of the next step, whose variables are d further on, have the values of their next literals
abbrev pub step_clauses : ℕ → List Latch → List (List ℕ)
step_clauses d [] = []
step_clauses d (x ∷ xs) = (negate (lit_of (x.var + d)) ∷ x.next ∷ [])
    ∷ (lit_of (x.var + d) ∷ negate x.next ∷ []) ∷ step_clauses d xs

-- the invariant is false at first
abbrev pub first_clauses : List Gate → Machine → ℕ → List (List ℕ)
first_clauses all m inv = circuit_clauses all ++ (reset_clauses m.latches ++ (negate inv ∷ []) ∷ [])

-- it is true at a step, and false at the next one
abbrev pub stay_clauses : ℕ → List Gate → Machine → ℕ → List (List ℕ)
stay_clauses d all m inv = circuit_clauses all ++ (gates_clauses (map (moved_gate 0 d) all)
    ++ (step_clauses d m.latches ++ (units_of m.constraints ++ (inv ∷ []) ∷ (negate (moved 0 d inv) ∷ []) ∷ [])))

-- it is true, and so is a bad output
abbrev pub bad_clauses : List Gate → Machine → ℕ → List (List ℕ)
bad_clauses all m inv = circuit_clauses all ++ (units_of m.constraints ++ (inv ∷ []) ∷ m.bad ∷ [])

-- the variables of latches are among the first n, and those of their next literals before p
abbrev pub latches_below : ℕ → ℕ → List Latch → Bool
latches_below n p latches =
    list_all (λ x. (nat_lt 0 x.var && nat_lt x.var (suc n)) && nat_lt (var_of x.next + 0) p) latches

-- a machine of n inputs and latches, whose own variables are before p, and further gates from p on that compute the
-- invariant: all have variables of their own in the formulas
pub record HaveSteps (n p d v : ℕ) (m : Machine) (more : List Gate) (inv : ℕ) : Type 0 where
  pub ordered : are_ordered (suc n) m.gates ≡ true
  pub more_ordered : are_ordered p more ≡ true
  pub all_ordered : are_ordered (suc n) (m.gates ++ more) ≡ true
  pub latches_first : latches_below n p m.latches ≡ true
  pub constraints_first : lits_below 0 p m.constraints ≡ true
  pub bad_first : lits_below 0 p m.bad ≡ true
  pub p_first : nat_lt (suc d) p ≡ false
  pub n_first : nat_lt d n ≡ false
  pub gates_first : gates_below 0 (suc d) (m.gates ++ more) ≡ true
  pub inv_first : nat_lt (var_of inv + 0) (suc d) ≡ true
  pub gates_second : gates_below d v (m.gates ++ more) ≡ true
  pub inputs_second : nat_lt (n + d) v ≡ true
  pub inv_second : nat_lt (var_of inv + d) v ≡ true

-- a machine is safe if an invariant is true at first, stays true, and excludes each bad output
abbrev pub SafeIsShown : Type 0
SafeIsShown = (n p d v : ℕ) (m : Machine) (more : List Gate) (inv : ℕ) → HaveSteps n p d v m more inv →
    IsRefuted (first_clauses (m.gates ++ more) m inv) → IsRefuted (stay_clauses d (m.gates ++ more) m inv) →
    IsRefuted (bad_clauses (m.gates ++ more) m inv) → IsSafe m
