-- What a refuted formula says of circuits.
--     NeverIsShown      no input makes an output true
--     SameIsShown      two circuits have the same outputs for the same input
use Rattle.std.specs.Prelude.{◌≡◌, ℕ, suc, ◌*◌, ◌+◌, Bool, true, false, if◌then◌else◌, nat_lt, List, [], ◌∷◌, ◌++◌, map, length}
use Rattle.std.specs.List.{list_any, list_all}
use Rattle.sat_rules.specs.Clauses.{lit_true, negate, var_of}
use Rattle.refutation_rules.specs.Cubes.{IsRefuted}
use Rattle.circuit_rules.specs.Circuits.{Gate, are_ordered, circuit_clauses, gates_clauses, lit_of, simulated}

-- some output is true
abbrev pub any_output : (ℕ → Bool) → List ℕ → Bool
any_output a outputs = list_any (lit_true a) outputs

-- whatever the input, no output is true
abbrev pub IsNever : List Gate → List ℕ → Type 0
IsNever gates outputs = (input : ℕ → Bool) → any_output (simulated input gates) outputs ≡ false

-- the clauses of a circuit, and the clause that some output is true
abbrev pub never_clauses : List Gate → List ℕ → List (List ℕ)
never_clauses gates outputs = circuit_clauses gates ++ outputs ∷ []

-- a circuit whose clauses are refuted with that clause is never true
abbrev pub NeverIsShown : Type 0
NeverIsShown = (n : ℕ) (gates : List Gate) (outputs : List ℕ) → are_ordered (suc n) gates ≡ true →
    IsRefuted (never_clauses gates outputs) → IsNever gates outputs

-- ---- two circuits

-- the outputs of a circuit for an input
abbrev pub outputs_of : (ℕ → Bool) → List Gate → List ℕ → List Bool
outputs_of input gates outputs = map (lit_true (simulated input gates)) outputs

-- whatever the input, the outputs of two circuits are the same
abbrev pub AreSame : List Gate → List ℕ → List Gate → List ℕ → Type 0
AreSame gates outputs gates' outputs' =
    (input : ℕ → Bool) → outputs_of input gates outputs ≡ outputs_of input gates' outputs'

-- a literal of the second circuit in the formula: the constant and the first n variables, which are the inputs, are
-- those of the first circuit, and each other variable is d further on
abbrev pub moved : ℕ → ℕ → ℕ → ℕ
moved n d l = if nat_lt (var_of l) (suc n) then l else l + 2 * d

-- a gate of the second circuit in the formula; its variable is no input
abbrev pub moved_gate : ℕ → ℕ → Gate → Gate
moved_gate n d g = record { var = g.var + d; left = moved n d g.left; right = moved n d g.right }

-- a variable for each pair of outputs, from v on: where it is true, the two outputs differ
abbrev pub difference_clauses : ℕ → ℕ → ℕ → List ℕ → List ℕ → List (List ℕ)
difference_clauses n d v [] ps = []
difference_clauses n d v (o ∷ os) [] = []
difference_clauses n d v (o ∷ os) (p ∷ ps) =
    (negate (lit_of v) ∷ o ∷ moved n d p ∷ [])
    ∷ (negate (lit_of v) ∷ negate o ∷ negate (moved n d p) ∷ [])
    ∷ difference_clauses n d (suc v) os ps

-- the literals of these variables
abbrev pub differences : ℕ → List ℕ → List ℕ
differences v [] = []
differences v (o ∷ os) = lit_of v ∷ differences (suc v) os

-- the variables of these gates, d further on, are before the n-th
abbrev pub gates_below : ℕ → ℕ → List Gate → Bool
gates_below d n gates = list_all (λ g. nat_lt (g.var + d) n) gates

-- the variables of these literals, d further on, are before the n-th
abbrev pub lits_below : ℕ → ℕ → List ℕ → Bool
lits_below d n lits = list_all (λ l. nat_lt (var_of l + d) n) lits

-- the clauses of both circuits and of the differences of their outputs, and the clause that some outputs differ
abbrev pub same_clauses : ℕ → ℕ → ℕ → List Gate → List ℕ → List Gate → List ℕ → List (List ℕ)
same_clauses n d v gates outputs gates' outputs' =
    circuit_clauses gates ++ (gates_clauses (map (moved_gate n d) gates')
    ++ (difference_clauses n d v outputs outputs' ++ differences v outputs ∷ []))

-- two circuits with n inputs and as many outputs, whose gates and outputs have variables of their own in the formula
pub record HavePlaces (n d v : ℕ) (gates : List Gate) (outputs : List ℕ) (gates' : List Gate)
    (outputs' : List ℕ) : Type 0 where
  pub ordered : are_ordered (suc n) gates ≡ true
  pub ordered' : are_ordered (suc n) gates' ≡ true
  pub gates_first : gates_below 0 (suc n + d) gates ≡ true
  pub outputs_first : lits_below 0 (suc n + d) outputs ≡ true
  pub gates_second : gates_below d v gates' ≡ true
  pub outputs_second : lits_below d v outputs' ≡ true
  pub last : nat_lt v (suc n + d) ≡ false
  pub as_many : length outputs ≡ length outputs'

-- two circuits are the same if these clauses are refuted
abbrev pub SameIsShown : Type 0
SameIsShown = (n d v : ℕ) (gates : List Gate) (outputs : List ℕ) (gates' : List Gate) (outputs' : List ℕ) →
    HavePlaces n d v gates outputs gates' outputs' →
    IsRefuted (same_clauses n d v gates outputs gates' outputs') → AreSame gates outputs gates' outputs'
