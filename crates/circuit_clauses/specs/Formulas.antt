-- The formulas of circuits that were read.
--     HasNever c formula      the formula of a circuit that is never true
--     HasSame c c' formula      the formula of two circuits that are the same
use Rattle.std.specs.Prelude.{◌≡◌, ℕ, suc, Bool, true, ◌&&◌, nat_lt, nat_le, List}
use Rattle.sat_rules.specs.Clauses.{var_of}
use Rattle.circuit_rules.specs.Circuits.{Gate, are_ordered}
use Rattle.circuit_rules.specs.Checks.{HavePlaces, never_clauses, same_clauses}
use Rattle.circuit_text.specs.declared.circuit.Circuit.{Circuit}
use Rattle.circuit_text.specs.Circuits.{circuit_of}

-- the gates of a circuit that was read
abbrev pub gates_in : Circuit → List Gate
gates_in c = (circuit_of c).gates

-- a gate reads variables before n alone, and has one from n on
abbrev pub is_next : ℕ → Gate → Bool
is_next n g = (nat_lt (var_of g.left) n && nat_lt (var_of g.right) n) && nat_le n g.var

-- the gates are in order, and the formula has their clauses and the clause that some output is true
pub record HasNever (c : Circuit) (formula : List (List ℕ)) : Type 0 where
  pub ordered : are_ordered (suc c.inputs) (gates_in c) ≡ true
  pub is : formula ≡ never_clauses (gates_in c) c.outputs.items

-- both circuits have places of their own, and the formula has the clauses of both and of the differences of outputs
pub record HasSame (c c' : Circuit) (formula : List (List ℕ)) : Type 0 where
  pub d : ℕ
  pub v : ℕ
  pub inputs : c.inputs ≡ c'.inputs
  pub places : HavePlaces c.inputs d v (gates_in c) c.outputs.items (gates_in c') c'.outputs.items
  pub is : formula ≡ same_clauses c.inputs d v (gates_in c) c.outputs.items (gates_in c') c'.outputs.items
