-- Why there is no formula of circuits.
--     never_cause c      of one circuit
--     same_cause c c'      of two circuits
--     safe_cause c c'      of a machine and an invariant
--     part_cause i part      of a part
--     IsCause cause fault      the fault is this cause, or there is none and memory ran out
use Rattle.std.specs.Prelude.{◌≡◌, ◌⊎◌, ℕ, suc, ◌+◌, ◌^◌, Bool, true, if◌then◌else◌, ◌&&◌, ◌==◌, nat_lt, List, Option, Some, None, length}
use Rattle.std.specs.List.{list_all}
use Rattle.sat_rules.specs.Clauses.{var_of}
use Rattle.circuit_rules.specs.Circuits.{Gate, Latch, are_ordered}
use Rattle.circuit_rules.specs.Checks.{gates_below, lits_below}
use Rattle.circuit_rules.specs.Safety.{latches_below}
use Rattle.circuit_text.specs.declared.circuit.Circuit.{Circuit}
use Rattle.circuit_clauses.specs.declared.fault.ClausesFault.{ClausesFault}
use Rattle.circuit_clauses.specs.declared.fault.ClausesFault.TheVariants.{Unordered, OtherInputs, OtherOutputs, NoOutputs, OutOfRange, NothingBad, NoInvariant, OtherStates, TooLarge, OutOfMemory}
use Rattle.circuit_clauses.specs.declared.induction.Induction.{Induction}
use Rattle.circuit_clauses.specs.declared.induction.Part.{Part}
use Rattle.circuit_clauses.specs.declared.induction.Part.TheVariants.{Initial, Step, Bad}
use Rattle.circuit_clauses.specs.Formulas.{gates_in}
use Rattle.circuit_clauses.specs.Machines.{bad_of, gates_of, machine_in, size_of, states_in}

-- the fault is this cause; or there is no cause, and memory ran out
abbrev pub IsCause : Option ClausesFault → ClausesFault → Type 0
IsCause cause fault = (cause ≡ Some fault) ⊎ ((cause ≡ None) × (fault ≡ OutOfMemory))

-- this fault, unless the test holds; what comes next, if it does
abbrev pub unless : Bool → ClausesFault → Option ClausesFault → Option ClausesFault
unless test fault next = if test then next else Some fault

-- ---- one circuit

-- some output is there of which something can be claimed
abbrev pub has_outputs : Circuit → Bool
has_outputs c = nat_lt 0 (length c.outputs.items)

-- the first of these: no outputs; a gate reads itself or a later gate, or has the variable of an input
abbrev pub never_cause : Circuit → Option ClausesFault
never_cause c = unless (has_outputs c) NoOutputs (unless (are_ordered (suc c.inputs) (gates_in c)) Unordered None)

-- ---- two circuits

-- the gates of both are in order, behind n inputs and latches
abbrev pub are_both_ordered : ℕ → Circuit → Circuit → Bool
are_both_ordered n c c' = are_ordered (suc n) (gates_in c) && are_ordered (suc n) (gates_in c')

-- the first variable that is none of n inputs and latches, and of no gate
abbrev pub end_of : ℕ → Circuit → ℕ
end_of n c = n + 1 + size_of c

-- the gates, and these literals, are of variables before that one
abbrev pub is_closed : ℕ → Circuit → List ℕ → Bool
is_closed n c lits = gates_below 0 (end_of n c) (gates_in c) && lits_below 0 (end_of n c) lits

-- how many variables a formula has for inputs, gates and differences between outputs
abbrev pub variables : Circuit → Circuit → ℕ
variables c c' = c.inputs + size_of c + size_of c' + length c.outputs.items

-- the first of these; a formula can have variables below 2^28
abbrev pub same_cause : Circuit → Circuit → Option ClausesFault
same_cause c c' =
    unless (c.inputs == c'.inputs) OtherInputs
    (unless (length c.outputs.items == length c'.outputs.items) OtherOutputs
    (unless (has_outputs c) NoOutputs
    (unless (nat_lt (variables c c') (2 ^ 28)) TooLarge
    (unless (are_both_ordered c.inputs c c') Unordered
    (unless (is_closed c.inputs c c.outputs.items && is_closed c.inputs c' c'.outputs.items) OutOfRange None)))))

-- ---- a machine and an invariant

-- one output and gates alone
abbrev pub is_invariant : Circuit → Bool
is_invariant c = length c.latches.items == 0 && length c.bad.items == 0 && length c.constraints.items == 0
    && length c.outputs.items == 1

-- its latches are among n inputs and latches, and all its literals are of these and of gates
abbrev pub is_machine : ℕ → Circuit → Bool
is_machine n c = latches_below n (end_of n c) (machine_in c).latches && lits_below 0 (end_of n c) c.constraints.items
    && is_closed n c (bad_of c.outputs.items c.bad.items)

-- the last variable of a step, before those of the next step
abbrev pub last_of : Circuit → Circuit → ℕ
last_of c c' = states_in c + size_of c + size_of c'

-- the first of these; the formula of a step has twice as many variables
abbrev pub safe_cause : Circuit → Circuit → Option ClausesFault
safe_cause c c' =
    unless (nat_lt 0 (length (bad_of c.outputs.items c.bad.items))) NothingBad
    (unless (is_invariant c') NoInvariant
    (unless (nat_lt (last_of c c') (2 ^ 27)) TooLarge
    (unless (c'.inputs == states_in c) OtherStates
    (unless (are_both_ordered (states_in c) c c') Unordered
    (unless (is_machine (states_in c) c && is_closed (states_in c) c' c'.outputs.items) OutOfRange None)))))

-- ---- parts

-- a formula can have the variable of a literal, d further on
abbrev pub lit_fits : ℕ → ℕ → Bool
lit_fits d l = nat_lt (var_of l + d) (2 ^ 28)

-- those of gates
abbrev pub gate_fits : ℕ → Gate → Bool
gate_fits d g = nat_lt (g.var + d) (2 ^ 28) && lit_fits d g.left && lit_fits d g.right

abbrev pub gates_fit : ℕ → List Gate → Bool
gates_fit d gates = list_all (gate_fits d) gates

-- and those of latches
abbrev pub latches_fit : ℕ → List Latch → Bool
latches_fit d latches = list_all (λ x. nat_lt (x.var + d) (2 ^ 28)) latches

-- the next step has variables, too
abbrev pub fits_part : Induction → Part → Bool
fits_part i Initial = true
fits_part i Step = gates_fit i.last (gates_of i) && latches_fit i.last (machine_in i.machine).latches
    && lit_fits i.last i.invariant
fits_part i Bad = true

abbrev pub part_cause : Induction → Part → Option ClausesFault
part_cause i part = unless (fits_part i part) TooLarge None
