-- What circuits compute for the input that a set of literals says.
--     input_by listed n      the values of n inputs
--     assigned input      the values of variables before the first gate
--     values_of s      the values of variables in a simulation
--     outputs_for input c      the outputs of a circuit
use Rattle.std.specs.Prelude.{ℕ, zero, suc, Bool, false, List, [], ◌∷◌, ◌++◌, slice_index_or}
use Rattle.circuit_rules.specs.Circuits.{lit_of}
use Rattle.circuit_rules.specs.Checks.{outputs_of}
use Rattle.circuit_text.specs.declared.circuit.Circuit as read
use Rattle.circuit_clauses.specs.Formulas.{gates_in}
use Rattle.circuit_answers.specs.declared.simulation.Simulation.{Simulation}

-- the values of n inputs, which are the variables from 1 on: one is true if its positive literal is in the set
abbrev pub input_by : (ℕ → Bool) → ℕ → List Bool
input_by listed zero = []
input_by listed (suc n) = input_by listed n ++ listed (lit_of (suc n)) ∷ []

-- the inputs have these values, from variable 1 on; all other variables are false
abbrev pub assigned : List Bool → ℕ → Bool
assigned input x = slice_index_or (false ∷ input) x false

-- a variable behind the last value is false
abbrev pub values_of : Simulation → ℕ → Bool
values_of s x = slice_index_or s.values.items x false

-- the outputs of a circuit for an input
abbrev pub outputs_for : List Bool → read.Circuit → List Bool
outputs_for input c = outputs_of (assigned input) (gates_in c) c.outputs.items
