-- Circuits as a text says them.
--     circuit_of c      the circuit that was read
use Rattle.std.specs.Prelude.{ℕ, List, map}
use Rattle.sat_rules.specs.Clauses.{var_of}
use Rattle.circuit_rules.specs.Circuits as rules
use Rattle.circuit_text.specs.declared.circuit.Circuit as read
use Rattle.circuit_text.specs.declared.circuit.Gate.{Gate}
use Rattle.circuit_text.specs.declared.circuit.Latch.{Latch}

-- the number of inputs, which are the variables from 1 on; the other parts in their order, with literals as codes
pub record Circuit : Type 0 where
  pub inputs : ℕ
  pub latches : List rules.Latch
  pub outputs : List ℕ
  pub bad : List ℕ
  pub constraints : List ℕ
  pub gates : List rules.Gate

-- a gate that was read
abbrev pub gate_of : Gate → rules.Gate
gate_of g = record { var = var_of g.output; left = g.left; right = g.right }

-- a latch that was read
abbrev pub latch_of : Latch → rules.Latch
latch_of x = record { var = var_of x.output; next = x.next; reset = x.reset }

-- the circuit that was read
abbrev pub circuit_of : read.Circuit → Circuit
circuit_of c = record {
  inputs = c.inputs;
  latches = map latch_of c.latches.items;
  outputs = c.outputs.items;
  bad = c.bad.items;
  constraints = c.constraints.items;
  gates = map gate_of c.gates.items;
}
