-- What a call emits as a run of the hint machine.
use Rattle.std.specs.Prelude.{List, Result}
use Rattle.sat_rules.specs.Named.{Machine}
use Rattle.checker_rules.specs.CheckedSteps.{NamedStep, hint_steps}
use Rattle.checker_rules.specs.HintRun.{IsRun, machine_after}
use Rattle.checker_rules.specs.Machine.{Mirrors}
use Rattle.checker_rules.specs.State.{State}
use Rattle.checker_parts.specs.Answers.{UnlessFailed}
use Rattle.checker_parts.specs.declared.error.CheckerError.{CheckerError}

-- for every map that is tied to the state s: each list of E is a run of the machine, and the map after it is tied to the state s', unless the call failed the checker
abbrev pub Certifies : {A : Type 0} → Result A CheckerError → (List NamedStep → Type 0) → State →
    State → Type 0
Certifies r E s s' = (m : Machine) (es : List NamedStep) → Mirrors m s → E es →
    IsRun m (hint_steps es) × UnlessFailed r (Mirrors (machine_after m (hint_steps es)) s')
