-- What a stimulus shows of a machine.
--     IsReached m      in some run, at a step up to which the constraints are true, a bad output is true
--     reach_of n m first steps      what the machine does, step after step
--     IsReachJudged c s reach      that is what it does
use Rattle.std.specs.Prelude.{◌≡◌, ℕ, zero, suc, ◌≤◌, Bool, true, false, not, ◌&&◌, ◌==◌, if◌then◌else◌, List, [], ◌∷◌, ◌++◌, map, codes, Option, Some, None, slice_index_or}
use Rattle.sat_rules.specs.Clauses.{lit_true}
use Rattle.circuit_rules.specs.Checks.{any_output}
use Rattle.circuit_rules.specs.Circuits.{Latch, simulated}
use Rattle.circuit_rules.specs.Safety.{IsRun, IsSafe, Machine, lits_true}
use Rattle.circuit_text.specs.declared.circuit.Circuit as read
use Rattle.circuit_clauses.specs.Machines.{machine_in}
use Rattle.stimulus_text.specs.Stimuli.{inputs_in}
use Rattle.stimulus_text.specs.declared.stimulus.Stimulus.{Stimulus}
use Rattle.circuit_answers.specs.Lines.{open_text}
use Rattle.circuit_answers.specs.Simulations.{assigned}
use Rattle.circuit_answers.specs.declared.reach.Reach.{Reach}
use Rattle.circuit_answers.specs.declared.reach.Reach.TheVariants.{At, OtherStart, Broken, Nowhere}

-- in some run, at some step up to which the constraints are true, a bad output is true
pub record IsReached (m : Machine) : Type 0 where
  pub given : ℕ → ℕ → Bool
  pub run : IsRun m given
  pub step : ℕ
  pub granted : (j : ℕ) → j ≤ step → lits_true (simulated (given j) m.gates) m.constraints ≡ true
  pub bad : any_output (simulated (given step) m.gates) m.bad ≡ true

-- such a machine is not safe
abbrev pub ReachedIsNotSafe : Type 0
ReachedIsNotSafe = (m : Machine) → IsReached m → IsSafe m → ⊥

-- ---- steps

-- the values of n inputs at a step; one that the stimulus lacks is false
abbrev pub padded : ℕ → List Bool → List Bool
padded zero inputs = []
padded (suc n) inputs = padded n inputs ++ slice_index_or inputs n false ∷ []

-- the values of all variables at a step: the inputs are the variables from 1 on, and the latches follow them
abbrev pub values_at : ℕ → Machine → List Bool → List Bool → ℕ → Bool
values_at n m states inputs = simulated (assigned (padded n inputs ++ states)) m.gates

-- the values of the latches at the next step
abbrev pub nexts : (ℕ → Bool) → List Latch → List Bool
nexts now latches = map (λ x. lit_true now x.next) latches

-- what a machine does from the k-th step on: its latches have these values, and its inputs those of the steps
abbrev pub reach_from : ℕ → Machine → ℕ → List Bool → List (List Bool) → Reach
reach_from n m k states [] = Nowhere
reach_from n m k states (inputs ∷ steps) =
    if not (lits_true (values_at n m states inputs) m.constraints) then Broken k
    else (if any_output (values_at n m states inputs) m.bad then At k
    else reach_from n m (suc k) (nexts (values_at n m states inputs) m.latches) steps)

-- ---- the start

-- the latches have the variables from the v-th on, in their order
abbrev pub are_placed : ℕ → List Latch → Bool
are_placed v [] = true
are_placed v (x ∷ xs) = (x.var == v) && are_placed (suc v) xs

-- a latch with this reset may have this first value
abbrev pub is_reset : Option Bool → Bool → Bool
is_reset None b = true
is_reset (Some true) b = b
is_reset (Some false) b = not b

-- the first latch whose value is not its reset, where the first latch has the i-th value
abbrev pub other_start : ℕ → List Latch → List Bool → Option ℕ
other_start i [] values = None
other_start i (x ∷ xs) values =
    if is_reset x.reset (slice_index_or values i false) then other_start (suc i) xs values else Some i

-- a run begins with the resets
abbrev pub started : Option ℕ → Reach → Reach
started None reach = reach
started (Some latch) reach = OtherStart latch

-- what a machine with n inputs does, whose latches have these first values
abbrev pub reach_of : ℕ → Machine → List Bool → List (List Bool) → Reach
reach_of n m first steps = started (other_start 0 m.latches first) (reach_from n m 0 first steps)

-- ---- verdicts

-- what a machine does by a stimulus; its latches follow its inputs
pub record IsReachJudged (c : read.Circuit) (s : Stimulus) (reach : Reach) : Type 0 where
  pub placed : are_placed (suc c.inputs) (machine_in c).latches ≡ true
  pub does : reach ≡ reach_of c.inputs (machine_in c) s.first.items (inputs_in s.steps.items)

-- a bad output is true at some step
abbrev pub is_reached : Reach → Bool
is_reached (At k) = true
is_reached (OtherStart latch) = false
is_reached (Broken k) = false
is_reached Nowhere = false

-- the line of the verdict
abbrev pub reach_line : Reach → List ℕ
reach_line (At k) = codes "s VERIFIED REACHED\n"
reach_line (OtherStart latch) = open_text
reach_line (Broken k) = open_text
reach_line Nowhere = open_text
