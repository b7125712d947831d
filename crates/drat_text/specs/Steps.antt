-- What the bytes of a proof say in all: steps, of whatever kind, and how they end.
use Rattle.std.specs.Prelude.{List, ◌∷◌}
use Rattle.drat_text.specs.declared.fault.DratKind.{DratKind}

-- well, or with a fault in the step after those before it
pub data Ending : Type 0 where
  Ended : Ending
  Faulty : DratKind → Ending

-- the steps that end before it, and the ending
abbrev pub Outcome : Type 0 → Type 0
Outcome T = List T × Ending

-- an outcome after this step
abbrev pub with_step : {T : Type 0} → T → Outcome T → Outcome T
with_step step o = (step ∷ o.0, o.1)
