-- The formulas of a machine and an invariant, by which the machine is safe.
--     machine_of c      the machine that a circuit is
--     part_clauses i part      one of the three formulas
--     IsInduction c c' i      a machine and an invariant, with places of their own
use Rattle.std.specs.Prelude.{◌≡◌, ℕ, suc, ◌+◌, ◌*◌, Bool, ◌&&◌, nat_lt, List, [], ◌∷◌, ◌++◌, map, length}
use Rattle.sat_rules.specs.Clauses.{negate, var_of}
use Rattle.refutation_rules.specs.Cubes.{units_of}
use Rattle.circuit_rules.specs.Circuits.{Gate, Latch, gates_clauses}
use Rattle.circuit_rules.specs.Checks.{moved, moved_gate}
use Rattle.circuit_rules.specs.Safety.{HaveSteps, Machine, bad_clauses, first_clauses, stay_clauses, step_clauses}
use Rattle.circuit_text.specs.declared.circuit.Circuit as read
use Rattle.circuit_text.specs.Circuits.{Circuit, circuit_of, gate_of}
use Rattle.circuit_clauses.specs.declared.counts.Counts.{Counts}
use Rattle.circuit_clauses.specs.declared.induction.Induction.{Induction}
use Rattle.circuit_clauses.specs.declared.induction.Part.{Part}
use Rattle.circuit_clauses.specs.declared.induction.Part.TheVariants.{Initial, Step, Bad}
use Rattle.circuit_clauses.specs.Formulas.{gates_in}

-- the bad outputs; all outputs are, where none is named
abbrev pub bad_of : List ℕ → List ℕ → List ℕ
bad_of outputs [] = outputs
bad_of outputs (b ∷ bs) = b ∷ bs

-- the machine that a circuit is
abbrev pub machine_of : Circuit → Machine
machine_of c = record {
  gates = c.gates;
  latches = c.latches;
  constraints = c.constraints;
  bad = bad_of c.outputs c.bad;
}

-- the machine of a circuit that was read
abbrev pub machine_in : read.Circuit → Machine
machine_in c = machine_of (circuit_of c)

-- how many inputs and latches there are, and how many gates
abbrev pub states_in : read.Circuit → ℕ
states_in c = c.inputs + length c.latches.items

abbrev pub size_of : read.Circuit → ℕ
size_of c = length c.gates.items

-- a latch of the next step has the value of its next literal
abbrev pub latch_clauses : ℕ → Latch → List (List ℕ)
latch_clauses d x = step_clauses d (x ∷ [])

-- the variable of a latch is among the first n, and that of its next literal before p
abbrev pub is_latch_below : ℕ → ℕ → Latch → Bool
is_latch_below n p x = (nat_lt 0 x.var && nat_lt x.var (suc n)) && nat_lt (var_of x.next + 0) p

-- inputs and latches; the machine's gates; and all these with the invariant's gates
abbrev pub HasCounts : read.Circuit → read.Circuit → Counts → Type 0
HasCounts c c' n =
    (n.states ≡ states_in c) × (n.own ≡ size_of c) × (n.last ≡ states_in c + size_of c + size_of c')

-- the gates of the machine, and behind them those of the invariant
abbrev pub gates_of : Induction → List Gate
gates_of i = map gate_of i.gates.items

-- the formula of a part: the invariant is false at first; it is true, and false at the next step; it is true, and so is
-- a bad output
abbrev pub part_clauses : Induction → Part → List (List ℕ)
part_clauses i Initial = first_clauses (gates_of i) (machine_in i.machine) i.invariant
part_clauses i Step = stay_clauses i.last (gates_of i) (machine_in i.machine) i.invariant
part_clauses i Bad = bad_clauses (gates_of i) (machine_in i.machine) i.invariant

-- what follows the gates in the formula of a step
abbrev pub after_clauses : Induction → List (List ℕ)
after_clauses i = gates_clauses (map (moved_gate 0 i.last) (gates_of i))
    ++ (step_clauses i.last (machine_in i.machine).latches ++ (units_of (machine_in i.machine).constraints
    ++ (i.invariant ∷ []) ∷ (negate (moved 0 i.last i.invariant) ∷ []) ∷ []))

-- the invariant's gates, behind the machine's: its inputs are the machine's inputs and latches
abbrev pub more_gates : read.Circuit → read.Circuit → List Gate
more_gates c c' = map (moved_gate (states_in c) (size_of c)) (gates_in c')

-- the first circuit is the machine, the second one has one output, which is the invariant, over the machine's inputs
-- and latches; all have places of their own
pub record IsInduction (c c' : read.Circuit) (i : Induction) : Type 0 where
  pub machine : i.machine ≡ c
  pub inputs : c'.inputs ≡ states_in c
  pub latches : c'.latches.items ≡ []
  pub output : ℕ
  pub outputs : c'.outputs.items ≡ output ∷ []
  pub invariant : i.invariant ≡ moved (states_in c) (size_of c) output
  pub gates : gates_of i ≡ gates_in c ++ more_gates c c'
  pub places : HaveSteps (states_in c) (states_in c + 1 + size_of c) i.last (2 * i.last + 1) (machine_in c)
      (more_gates c c') i.invariant
