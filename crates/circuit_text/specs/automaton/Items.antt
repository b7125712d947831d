-- The circuit so far.
--     with_item c item      a circuit with one item more
use Rattle.std.specs.Prelude.{[], ◌∷◌, ◌++◌}
use Rattle.circuit_text.specs.declared.circuit.Item.{Item}
use Rattle.circuit_text.specs.declared.circuit.Item.TheVariants.{OfLatch, OfOutput, OfBad, OfConstraint, OfGate}
use Rattle.circuit_text.specs.Circuits.{Circuit, gate_of, latch_of}

-- before the first item
abbrev pub no_circuit : Circuit
no_circuit = record { inputs = 0; latches = []; outputs = []; bad = []; constraints = []; gates = [] }

-- an item behind those of its kind
abbrev pub with_item : Circuit → Item → Circuit
with_item c (OfLatch x) = record c { latches = c.latches ++ latch_of x ∷ [] }
with_item c (OfOutput l) = record c { outputs = c.outputs ++ l ∷ [] }
with_item c (OfBad l) = record c { bad = c.bad ++ l ∷ [] }
with_item c (OfConstraint l) = record c { constraints = c.constraints ++ l ∷ [] }
with_item c (OfGate g) = record c { gates = c.gates ++ gate_of g ∷ [] }
