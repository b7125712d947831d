-- Circuits of and gates, as AIGER has them. A literal is a code: twice the variable, and 1 more if it is negated.
-- Variable 0 is the constant false; each other variable is an input, a latch or the output of a gate.
--     simulated input gates      the values of all variables, from those of the inputs, gate after gate
--     are_ordered n gates      each gate has a variable of its own, after those that it reads
--     circuit_clauses gates      clauses that say the same
use Rattle.std.specs.Prelude.{◌≡◌, ℕ, suc, ◌*◌, Bool, true, false, if◌then◌else◌, ◌&&◌, ◌==◌, nat_lt, nat_le, List, [], ◌∷◌, ◌++◌, Option}
use Rattle.sat_rules.specs.Clauses.{all_true, lit_true, negate, var_of}

-- a variable, and the two literals of which it is the conjunction
pub record Gate : Type 0 where
  pub var : ℕ
  pub left : ℕ
  pub right : ℕ

-- a latch: a variable, the literal whose value it takes at the next step, and its first value, unless that is free
pub record Latch : Type 0 where
  pub var : ℕ
  pub next : ℕ
  pub reset : Option Bool

-- the assignment with another value of one variable
abbrev pub with_value : (ℕ → Bool) → ℕ → Bool → ℕ → Bool
with_value a v b x = if x == v then b else a x

-- the value of a gate
abbrev pub gate_value : (ℕ → Bool) → Gate → Bool
gate_value a g = lit_true a g.left && lit_true a g.right

-- the values after the gates, one after the other
abbrev pub run_gates : (ℕ → Bool) → List Gate → ℕ → Bool
run_gates a [] = a
run_gates a (g ∷ gs) = run_gates (with_value a g.var (gate_value a g)) gs

-- the values of all variables; the constant is false, whatever the input
abbrev pub simulated : (ℕ → Bool) → List Gate → ℕ → Bool
simulated input gates = run_gates (with_value input 0 false) gates

-- each gate reads variables before n alone, and has a variable from n on, which the gates after it may read
abbrev pub are_ordered : ℕ → List Gate → Bool
are_ordered n [] = true
are_ordered n (g ∷ gs) = (nat_lt (var_of g.left) n && nat_lt (var_of g.right) n)
    && (nat_le n g.var && are_ordered (suc g.var) gs)

-- ---- clauses

-- the literal of a variable
abbrev pub lit_of : ℕ → ℕ
lit_of v = 2 * v

-- the gate implies each of its literals, and both together imply the gate
abbrev pub gate_clauses : Gate → List (List ℕ)
gate_clauses g = (negate (lit_of g.var) ∷ g.left ∷ []) ∷ (negate (lit_of g.var) ∷ g.right ∷ [])
    ∷ (lit_of g.var ∷ negate g.left ∷ negate g.right ∷ []) ∷ []

-- the clauses of all gates
abbrev pub gates_clauses : List Gate → List (List ℕ)
gates_clauses [] = []
gates_clauses (g ∷ gs) = gate_clauses g ++ gates_clauses gs

-- the clauses of a circuit: the constant is false, and those of its gates
abbrev pub circuit_clauses : List Gate → List (List ℕ)
circuit_clauses gates = (negate (lit_of 0) ∷ []) ∷ gates_clauses gates

-- the values that a circuit computes satisfy its clauses
abbrev pub CircuitsAreClauses : Type 0
CircuitsAreClauses = (n : ℕ) (gates : List Gate) → are_ordered (suc n) gates ≡ true →
    (input : ℕ → Bool) → all_true (simulated input gates) (circuit_clauses gates) ≡ true
