-- Runs of a stimulus.
--     OfReach known known' P      this holds of the machine and the stimulus that the texts say
--     IsReachRun known known' r      what the machine does, or why that is not found out
--     BeginsReach old new c s      what was written, where the line was not written whole
use Rattle.std.specs.Prelude.{ℕ, List, Option, Result, Ok, Err, length}
use Rattle.whole_writes.specs.Beginnings.{AppendsBeginning}
use Rattle.circuit_text.specs.declared.circuit.Circuit as read
use Rattle.circuit_text.specs.Faults as circuit_faults
use Rattle.circuit_text.specs.Reading as circuits
use Rattle.stimulus_text.specs.Faults as stimulus_faults
use Rattle.stimulus_text.specs.Faults.{StimulusFault}
use Rattle.stimulus_text.specs.Reading as stimuli
use Rattle.stimulus_text.specs.declared.spot.Shape.{Shape}
use Rattle.stimulus_text.specs.declared.stimulus.Stimulus.{Stimulus}
use Rattle.circuit_clauses.specs.Causes.{IsCause}
use Rattle.circuit_answers.specs.Causes.{reach_cause}
use Rattle.circuit_answers.specs.Reached.{IsReachJudged, reach_line}
use Rattle.circuit_answers.specs.declared.reach.Reach.{Reach}
use Rattle.circuit_check.specs.declared.fault.ReachFault.{ReachFault}
use Rattle.circuit_check.specs.declared.fault.ReachFault.TheVariants as faults

-- how many values the lines of a stimulus have
abbrev pub shape_of : read.Circuit → Shape
shape_of c = record { latches = length c.latches.items; inputs = c.inputs }

-- this holds of the machine and the stimulus that the texts say
pub record OfReach (known known' : Option (List ℕ)) (P : read.Circuit → Stimulus → Type 0) : Type 0 where
  pub circuit : read.Circuit
  pub says : circuits.IsRead known circuit
  pub stimulus : Stimulus
  pub says' : stimuli.IsRead (shape_of circuit) known' stimulus
  pub holds : P circuit stimulus

-- the text says a machine, and the stimulus has this fault
pub record FailsStimulus (known known' : Option (List ℕ)) (fault : StimulusFault) : Type 0 where
  pub circuit : read.Circuit
  pub says : circuits.IsRead known circuit
  pub fails : stimulus_faults.FailsBy (shape_of circuit) known' fault

-- the fault of the machine, then that of the stimulus, then that of the run, then that of the write
abbrev pub FailsRun : Option (List ℕ) → Option (List ℕ) → ReachFault → Type 0
FailsRun known known' (faults.Unread fault) = circuit_faults.FailsBy known fault
FailsRun known known' (faults.Stimulus fault) = FailsStimulus known known' fault
FailsRun known known' (faults.NotRun fault) = OfReach known known' (λ c s. IsCause (reach_cause c) fault)
FailsRun known known' (faults.Write cause) = OfReach known known' (λ c s. (reach : Reach) × IsReachJudged c s reach)

-- what the machine does, or why that is not found out
abbrev pub IsReachRun : Option (List ℕ) → Option (List ℕ) → Result Reach ReachFault → Type 0
IsReachRun known known' (Ok reach) = OfReach known known' (λ c s. IsReachJudged c s reach)
IsReachRun known known' (Err fault) = FailsRun known known' fault

-- ---- writes

-- no line of a verdict was begun
abbrev pub IsSilentReach : Result Reach ReachFault → Type 0
IsSilentReach (Ok reach) = ⊥
IsSilentReach (Err (faults.Write cause)) = ⊥
IsSilentReach r = Unit {0}

-- there is a verdict, and its line was not written whole
abbrev pub IsUnwrittenReach : Result Reach ReachFault → Type 0
IsUnwrittenReach (Err (faults.Write cause)) = Unit {0}
IsUnwrittenReach r = ⊥

-- a beginning of the line of the verdict was appended
pub record BeginsReach (old new : Option (List ℕ)) (c : read.Circuit) (s : Stimulus) : Type 0 where
  pub reach : Reach
  pub judged : IsReachJudged c s reach
  pub begins : AppendsBeginning old new (reach_line reach)
