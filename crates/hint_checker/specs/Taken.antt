-- What a checker of hints did with the lines of a proof.
--     Runs h ls k      the lines are accepted after h, and lead to k
--     HasTaken first ls now      the checker accepted them
--     HasRejected first ls line fault now      it accepted them, and not the line after them
use Rattle.std.specs.Prelude.{◌≡◌, List, [], ◌∷◌, Some, None}
use Rattle.sat_rules.specs.HintLines.{Listed}
use Rattle.lrat_rules.specs.Lines.{Line}
use Rattle.hint_checker.specs.Checked.{IsCause, after_said, refusal}
use Rattle.hint_checker.specs.Given.{as_hints}
use Rattle.hint_checker.specs.Held.{HoldsLittle, holds}
use Rattle.hint_checker.specs.declared.checker.HintChecker.{HintChecker}
use Rattle.hint_checker.specs.declared.fault.LineFault.{LineFault}

-- the lines are accepted after h, and lead to k
abbrev pub Runs : Listed → List Line → Listed → Type 0
Runs h [] k = k ≡ h
Runs h (line ∷ ls) k =
    (refusal h (as_hints line) ≡ None) × Runs (after_said h (as_hints line)) ls k

-- they lead from what was held to what is held now
pub record HasTaken (first : HintChecker) (ls : List Line) (now : HintChecker) : Type 0 where
  pub leads : (h : Listed) → holds first ≡ Some h →
      (k : Listed) × Runs h ls k × (holds now ≡ Some k)
  pub small : HoldsLittle first → HoldsLittle now

-- and the line after them is rejected for this cause, or there was no memory for it
abbrev pub HasRejected : HintChecker → List Line → Line → LineFault → HintChecker → Type 0
HasRejected first ls line fault now = (h : Listed) → holds first ≡ Some h →
    (k : Listed) × Runs h ls k × IsCause fault (refusal k (as_hints line)) × (holds now ≡ None)
