-- Exit statuses, and how runs end.
--     status_of shows result      the exit status of a run, by what its program is asked to show
--     status_shown shows verdict      that of a verdict
--     ended_of shows result      how a run ends, by its verdict
--     refused_with refusal      the exit status of a call that shows no verdict
--     either result      the exit status of a call
--     ShowsLine line checked old new result      what showing a verdict's line leaves
--     Ends line status Holds Left old new result      how a call ends, by the verdict that it shows
use Rattle.std.specs.Prelude.{◌≡◌, ◌⊎◌, ℕ, Bool, List, Option, Result, Ok, Err, IsErr, if◌then◌else◌}
use Rattle.std.specs.Io.KnownBytes.{Appends}
use Rattle.whole_writes.specs.Beginnings.{AppendsBeginning}
use Rattle.verdicts.specs.declared.status.Refusal.{Refusal}
use Rattle.verdicts.specs.declared.status.Refusal.TheVariants.{Failed, NotRun}

-- 0 where that is shown which the program is asked to show, 3 where it is not
abbrev pub status_shown : {V : Type 0} → (V → Bool) → V → ℕ
status_shown shows verdict = if shows verdict then 0 else 3

-- the same, and 1 where there is no verdict
abbrev pub status_of : {V E : Type 0} → (V → Bool) → Result V E → ℕ
status_of shows (Ok verdict) = status_shown shows verdict
status_of shows (Err fault) = 1

-- a run without a verdict has failed
abbrev pub ended_of : {V E : Type 0} → (V → Bool) → Result V E → Result ℕ Refusal
ended_of shows (Ok verdict) = Ok (status_shown shows verdict)
ended_of shows (Err fault) = Err Failed

-- 1 for a call that failed, 2 for one that can't be run
abbrev pub refused_with : Refusal → ℕ
refused_with Failed = 1
refused_with NotRun = 2

-- the status of a verdict, or that of a refusal
abbrev pub either : Result ℕ Refusal → ℕ
either (Ok status) = status
either (Err refusal) = refused_with refusal

-- the line of the verdict that was reached was appended; or nothing was, and there is none; or a prefix of its line was
abbrev pub ShowsLine : {V E : Type 0} → (V → List ℕ) → Result V E
    → Option (List ℕ) → Option (List ℕ) → Result V E → Type 0
ShowsLine {V} {E} line checked old new (Ok verdict) = (checked ≡ Ok verdict) × Appends old new (line verdict)
ShowsLine {V} {E} line checked old new (Err fault) = (IsErr checked × (new ≡ old))
    ⊎ ((verdict : V) × (checked ≡ Ok verdict) × AppendsBeginning old new (line verdict))

-- a verdict that holds was shown: its line was appended, and the status is its own; or the call was refused: nothing was appended,
-- or it failed within the line of a verdict that holds
abbrev pub Ends : {V : Type 0} → (V → List ℕ) → (V → ℕ) → (V → Type 0) → Type 0
    → Option (List ℕ) → Option (List ℕ) → Result ℕ Refusal → Type 0
Ends {V} line status Holds Left old new (Ok shown) =
    (verdict : V) × (shown ≡ status verdict) × Appends old new (line verdict) × Holds verdict
Ends {V} line status Holds Left old new (Err refusal) = ((new ≡ old) × Left)
    ⊎ ((refusal ≡ Failed) × ((verdict : V) × AppendsBeginning old new (line verdict) × Holds verdict))
