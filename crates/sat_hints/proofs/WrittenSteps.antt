-- What a checked step asks, where it asks one thing.
use Rattle.std.proofs.Common.{◌≡◌, [], ◌∷◌, refl, append-nil}
use Rattle.checker_rules.specs.CheckedSteps.{CheckedStep, hint_step}
use Rattle.checker_rules.specs.HintRun.{HintStep}
use Rattle.sat_hints.specs.Writing.{Wrote, WroteLine}
use Rattle.sat_hints.specs.declared.writer.LratWriter.{LratWriter}

pub wrote_one : (old new : LratWriter) (step : CheckedStep) (e : HintStep) → hint_step step ≡ e ∷ [] → WroteLine old e new → Wrote old step new
wrote_one old new step e one p = record { accepted = rw (one, p.accepted) refl; after = rw one p.after; text = rw (one, append-nil) p.text }
