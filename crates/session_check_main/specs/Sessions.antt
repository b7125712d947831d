-- How a call ends, by the bytes of a session.
--     session_text rs      the line of each query, and the last one
--     EndsSession known before after result      a call over these texts
--     texts_named files input operands      the texts that the operands of a call name
--     EndsCall files input call before after result      each call
use Rattle.std.specs.Prelude.{◌≡◌, ◌⊎◌, ℕ, false, List, [], ◌∷◌, ◌++◌, Option, Some, None, Result, Ok, Err, codes}
use Rattle.std.specs.Io.KnownBytes.{Appends}
use Rattle.command.specs.Calls.{choices_of, is_given, operands_of}
use Rattle.command.specs.Inputs.{bytes_named}
use Rattle.command.specs.declared.call.Call.{Call}
use Rattle.verdicts.specs.Statuses.{status_shown}
use Rattle.verdicts.specs.declared.status.Refusal.{Refusal}
use Rattle.verdicts.specs.declared.status.Refusal.TheVariants.{Failed, NotRun}
use Rattle.session_check.specs.Counts.{all_shown, last_line}
use Rattle.session_check.specs.Lines.{Texts, alone, both}
use Rattle.session_check.specs.Runs.{Leaves, ShowsAll, told}
use Rattle.session_check.specs.declared.fault.RunFault.{RunFault}
use Rattle.session_check.specs.declared.report.Report.{Report}

-- what is written of a whole session
abbrev pub session_text : List Report → List ℕ
session_text rs = (told rs).text ++ last_line (told rs).counts

-- each query has its report, which is true; all lines were written, and the status says whether all answers are shown;
-- or a fault cut the session off, and the lines before it were written; or the call can't be run, and nothing was
abbrev pub EndsSession : Texts → Option (List ℕ) → Option (List ℕ) → Result ℕ Refusal → Type 0
EndsSession known before after (Ok status) = (rs : List Report) × ShowsAll known rs
    × (status ≡ status_shown all_shown (told rs).counts) × Appends before after (session_text rs)
EndsSession known before after (Err Failed) = (fault : RunFault) × Leaves known before after fault
EndsSession known before after (Err NotRun) = after ≡ before

-- a proof alone, or an interaction and its proof
abbrev pub texts_named : (List ℕ → Option (List ℕ)) → Option (List ℕ) → List (List ℕ) → Option Texts
texts_named files input [] = None
texts_named files input (proof ∷ []) = Some (alone (bytes_named files input proof))
texts_named files input (interaction ∷ proof ∷ []) =
    Some (both (bytes_named files input interaction) (bytes_named files input proof))
texts_named files input (first ∷ second ∷ third ∷ others) = None

-- as a session of the texts that it names, or of the example's; or it can't be run, and nothing was written
abbrev pub EndsCall : (List ℕ → Option (List ℕ)) → Option (List ℕ) → Call
    → Option (List ℕ) → Option (List ℕ) → Result ℕ Refusal → Type 0
EndsCall files input call before after result = ((result ≡ Err NotRun) × (after ≡ before))
    ⊎ ((known : Texts) × (is_given (choices_of call) (codes "--example") ≡ false
    → Some known ≡ texts_named files input (operands_of call)) × EndsSession known before after result)
