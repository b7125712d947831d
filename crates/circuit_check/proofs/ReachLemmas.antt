-- What the run of a stimulus says of the text of a machine.
use Rattle.std.proofs.Common.{◌≡◌, ℕ, List, Option, Some, subst}
use Rattle.whole_writes.specs.Beginnings.{AppendsBeginning}
use Rattle.circuit_text.specs.declared.circuit.Circuit as read
use Rattle.circuit_text.specs.Circuits.{circuit_of}
use Rattle.circuit_text.specs.Reading.{IsRead}
use Rattle.stimulus_text.specs.Faults as stimulus_faults
use Rattle.stimulus_text.specs.Faults.{StimulusFault}
use Rattle.stimulus_text.specs.Reading as stimuli
use Rattle.stimulus_text.specs.declared.spot.Shape.{Shape}
use Rattle.stimulus_text.specs.declared.stimulus.Stimulus.{Stimulus}
use Rattle.circuit_answers.specs.Reached.{IsReachJudged, reach_line}
use Rattle.circuit_answers.specs.declared.reach.Reach.{Reach}
use Rattle.circuit_answers.specs.declared.reach.Reach.TheVariants.{At}
use Rattle.circuit_answers.proofs.RunLemmas.{reached_shown}
use Rattle.circuit_check.specs.Claims.{IsReachedText}
use Rattle.circuit_check.specs.Reached.{BeginsReach, FailsStimulus, OfReach, shape_of}
use Rattle.circuit_check.proofs.ClaimLemmas.{said_by}

pub reached_text : (known : Option (List ℕ)) (said : List ℕ) (c : read.Circuit) (s : Stimulus) (reach : Reach) (step : ℕ) → known ≡ Some said → IsRead known c →
    IsReachJudged c s reach → reach ≡ At step → IsReachedText said
reached_text known said c s reach step e says judged is = record {
  circuit = circuit_of c;
  says = said_by known said c e says;
  reached = reached_shown c s reach step judged is;
}

-- what was found of the machine and of the stimulus that were read
module _ (known known' : Option (List ℕ)) (c : read.Circuit) (shape : Shape) (says : IsRead known c) (e : shape ≡ shape_of c) where
  pub stimulus_fails : (fault : StimulusFault) → stimulus_faults.FailsBy shape known' fault → FailsStimulus known known' fault
  stimulus_fails fault h = record { circuit = c; says = says; fails = subst (λ (x : Shape). stimulus_faults.FailsBy x known' fault) e h }

  pub reach_by : (s : Stimulus) → stimuli.IsRead shape known' s → (P : read.Circuit → Stimulus → Type 0) → P c s → OfReach known known' P
  reach_by s said P h = record {
    circuit = c;
    says = says;
    stimulus = s;
    says' = subst (λ (x : Shape). stimuli.IsRead x known' s) e said;
    holds = h;
  }

pub begins_by : (old new : Option (List ℕ)) (c : read.Circuit) (s : Stimulus) (reach : Reach) (line : List ℕ) → IsReachJudged c s reach → line ≡ reach_line reach →
    AppendsBeginning old new line → BeginsReach old new c s
begins_by old new c s reach line judged e h = record { reach = reach; judged = judged; begins = subst (λ (l : List ℕ). AppendsBeginning old new l) e h }
