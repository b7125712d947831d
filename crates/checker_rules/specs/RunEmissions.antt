-- What a run over a text emits, and that it is a run of the hint machine.
--     last_calls next s x      the call in which a run ends: the closing conflict, the rejected step, or none
--     EmitsRun next s x ts es      what the run emits that accepts ts
--     RunsRunMachine      it is a run of the hint machine, whose map follows the state
use Rattle.std.specs.Prelude.{◌≡◌, ◌⊎◌, if◌then◌else◌, nat_lt, List, [], ◌∷◌, ◌++◌, map, Option}
use Rattle.std.proofs.Common.{inl, inr}
use Rattle.sat_rules.specs.Named.{Machine}
use Rattle.checker_rules.specs.CallEmissions.{EmitsCall, EmitsCalls}
use Rattle.checker_rules.specs.Calls.{Call, attempt, calls_after, checks, closes, step_limit}
use Rattle.checker_rules.specs.CheckedSteps.{NamedStep, hint_steps}
use Rattle.checker_rules.specs.HintRun.{IsRun, machine_after}
use Rattle.checker_rules.specs.Machine.{Mirrors}
use Rattle.checker_rules.specs.Outcome.{Cause}
use Rattle.checker_rules.specs.Reaching.{Reaches}
use Rattle.checker_rules.specs.Run.{Runs, move}
use Rattle.checker_rules.specs.State.{State}
use Rattle.checker_rules.specs.Step.{Step}
use Rattle.checker_rules.specs.WellFormed.{WellFormed}

-- a step that was read is attempted; a fault is no call
abbrev pub read_calls : {X F : Type 0} → (Step × X) ⊎ F → List Call
read_calls (inl p) = checks p.0 ∷ []
read_calls (inr fault) = []

-- the call of the last move
abbrev pub last_calls : {X F : Type 0} → (X → (Step × X) ⊎ F) → State → X → List Call
last_calls next s x =
    if s.ended then closes ∷ []
    else if nat_lt s.steps step_limit then read_calls (next x)
    else []

-- what the accepted steps emit, one after the other, and then the last move
abbrev pub EmitsRun : {X F : Type 0} → (X → (Step × X) ⊎ F) → State → X → List Step →
    List NamedStep → Type 0
EmitsRun next s x [] es = EmitsCalls s (last_calls next s x) es
EmitsRun {X = X} next s x (t ∷ ts) es =
    (rest : X) × (move next s x ≡ inl (t, rest)) × (xs : List NamedStep) × (ys : List NamedStep)
    × EmitsCall s (checks t) xs × EmitsRun next (attempt s t).after rest ts ys × (es ≡ xs ++ ys)

-- for every map that is tied to the state
abbrev pub RunsRunMachine : (X F : Type 0) → Type 0
RunsRunMachine X F = (next : X → (Step × X) ⊎ F) (m : Machine) (s : State) (x : X) (ts : List Step)
    (answer : Option (Cause ⊎ F)) (r : State) (es : List NamedStep) →
    Mirrors m s → WellFormed s → Runs next s x ts answer r → EmitsRun next s x ts es →
    IsRun m (hint_steps es) × Mirrors (machine_after m (hint_steps es)) r × WellFormed r

-- what was emitted so far, and what is emitted from there
pub record EmissionsJoin (X F : Type 0) : Type 0 where
  pub calls : (s : State) (first second : List Call) (xs ys : List NamedStep) →
      EmitsCalls s first xs → EmitsCalls (calls_after s first) second ys →
      EmitsCalls s (first ++ second) (xs ++ ys)
  pub ends : (next : X → (Step × X) ⊎ F) (s : State) (x : X) (ts : List Step) (r : State) (y : X)
      (us : List Step) (xs ys : List NamedStep) →
      Reaches next s x ts r y → EmitsCalls s (map checks ts) xs → EmitsRun next r y us ys →
      EmitsRun next s x (ts ++ us) (xs ++ ys)
