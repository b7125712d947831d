-- What a run over a session writes and returns.
--     Told, told rs      what is written of some reports: the counts and the lines
--     ShowsAll known rs, Shows known rs      these are true reports of all queries of a session;  of the first ones
--     IsRun known before after result      what a run is
use Rattle.std.specs.Prelude.{◌≡◌, ℕ, List, [], ◌∷◌, ◌++◌, Option, Some, None, Result, Ok, Err}
use Rattle.std.specs.Io.KnownBytes.{Appends}
use Rattle.whole_writes.specs.Beginnings.{AppendsBeginning}
use Rattle.session_text.specs.Outcomes.{Line}
use Rattle.session_check.specs.Counts.{counted, last_line, no_counts}
use Rattle.session_check.specs.Interactions.{AllShown, Asked, Interaction, interaction_of}
use Rattle.session_check.specs.Lines.{Begin, BeforeFault, LinesBy, Make, Texts}
use Rattle.session_check.specs.Progress.{Closes, IsJudged, IsUnanswered, Progress}
use Rattle.session_check.specs.Reports.{report_line}
use Rattle.session_check.specs.declared.counts.Counts.{Counts}
use Rattle.session_check.specs.declared.fault.RunFault.{RunFault}
use Rattle.session_check.specs.declared.fault.RunFault.TheVariants as faults
use Rattle.session_check.specs.declared.fault.Stop.{Stop}
use Rattle.session_check.specs.declared.fault.Stop.TheVariants as stops
use Rattle.session_check.specs.declared.report.Report.{Report}

-- counts, and the lines that were written
pub record Told : Type 0 where
  pub counts : Counts
  pub text : List ℕ

-- one report more
abbrev pub tell : Told → Report → Told
tell t r = record {
  counts = counted t.counts r;
  text = t.text ++ report_line (counted t.counts r).queries r;
}

-- further reports
unfoldable pub tell_all : Told → List Report → Told
tell_all t [] = t
tell_all t (r ∷ rs) = tell_all (tell t r) rs

-- these reports
abbrev pub told : List Report → Told
told rs = tell_all (record { counts = no_counts; text = [] }) rs

-- the texts have no fault, each query is answered, and each has its report, by the rules, which is true
abbrev pub ShowsAll : Texts → List Report → Type 0
ShowsAll known rs = (told : List Line) × (lines : List Line) × LinesBy Make Make known told lines
    × ((interaction_of told).unanswered ≡ None) × AllShown (interaction_of told).queries rs
    × IsJudged lines rs

-- so have these, but the last query has no answer
abbrev pub LeavesOne : Texts → List Report → Type 0
LeavesOne known rs = (told : List Line) × (lines : List Line) × LinesBy Make Make known told lines
    × ((assumed : List ℕ) × ((interaction_of told).unanswered ≡ Some assumed))
    × AllShown (interaction_of told).queries rs

-- one, or none
abbrev pub listed : Option Asked → List Asked
listed None = []
listed (Some q) = q ∷ []

-- all answered queries have true reports, or all but the last one
pub record ShowsBut (a : Interaction) (rs : List Report) : Type 0 where
  pub reported : List Asked
  pub unreported : Option Asked
  pub queries : a.queries ≡ reported ++ listed unreported
  pub shown : AllShown reported rs

-- so is it with the first lines of the texts
abbrev pub Shows : Texts → List Report → Type 0
Shows known rs = (told : List Line) × (lines : List Line) × LinesBy Begin Begin known told lines
    × ShowsBut (interaction_of told) rs

-- or with all lines before a fault
abbrev pub ShowsBefore : RunFault → Texts → List Report → Type 0
ShowsBefore fault known rs = (told : List Line) × (lines : List Line) × BeforeFault fault known told lines
    × ShowsBut (interaction_of told) rs

-- a run that was cut off: among the queries, or at the last line
pub data IsCut (known : Texts) (before after : Option (List ℕ)) : Type 0 where
  among : (rs : List Report) → Shows known rs → AppendsBeginning before after (told rs).text →
      IsCut known before after
  at_last : (rs : List Report) → ShowsAll known rs →
      AppendsBeginning before after ((told rs).text ++ last_line (told rs).counts) →
      IsCut known before after

-- what a fault of a text or of a line leaves: the lines of the queries before it
abbrev pub LeavesLines : RunFault → Texts → Option (List ℕ) → Option (List ℕ) → Type 0
LeavesLines fault known before after =
    (rs : List Report) × ShowsBefore fault known rs × Appends before after (told rs).text

-- what an error leaves: these, or a beginning of what was to be written
abbrev pub Leaves : Texts → Option (List ℕ) → Option (List ℕ) → RunFault → Type 0
Leaves known before after (faults.Interaction fault) =
    LeavesLines (faults.Interaction fault) known before after
Leaves known before after (faults.Proof fault) = LeavesLines (faults.Proof fault) known before after
Leaves known before after (faults.Line line cause) =
    LeavesLines (faults.Line line cause) known before after
Leaves known before after (faults.Unproved line) =
    LeavesLines (faults.Unproved line) known before after
Leaves known before after (faults.NoAnswer line) =
    (rs : List Report) × LeavesOne known rs × Appends before after (told rs).text
Leaves known before after faults.OutOfMemory = IsCut known before after
Leaves known before after (faults.Write e) = IsCut known before after

-- a run that has ended wrote the line of each query and the last one
abbrev pub IsRun : Texts → Option (List ℕ) → Option (List ℕ) → Result Counts RunFault → Type 0
IsRun known before after (Ok counts) = (rs : List Report) × ShowsAll known rs
    × ((told rs).counts ≡ counts)
    × Appends before after ((told rs).text ++ last_line counts)
IsRun known before after (Err fault) = Leaves known before after fault

-- ---- parts of a run

-- the fault of a line of this number that was not taken
abbrev pub stop_fault : Stop → ℕ → RunFault
stop_fault (stops.Line cause) line = faults.Line line cause
stop_fault stops.OutOfMemory line = faults.OutOfMemory

-- memory ran out, or a write failed, and this is so
abbrev pub CutsOff : Type 0 → RunFault → Type 0
CutsOff part (faults.Interaction fault) = ⊥
CutsOff part (faults.Proof fault) = ⊥
CutsOff part (faults.Line line cause) = ⊥
CutsOff part (faults.NoAnswer line) = ⊥
CutsOff part (faults.Unproved line) = ⊥
CutsOff part faults.OutOfMemory = part
CutsOff part (faults.Write e) = part

-- a report was written, or there is none
abbrev pub Tells : Counts → Counts → Option Report → Option (List ℕ) → Option (List ℕ) → Type 0
Tells old new None before after = (new ≡ old) × (after ≡ before)
Tells old new (Some r) before after =
    (new ≡ counted old r) × Appends before after (report_line new.queries r)

-- a beginning of it was
abbrev pub TellsPart : Counts → Option Report → Option (List ℕ) → Option (List ℕ) → Type 0
TellsPart old None before after = ⊥
TellsPart old (Some r) before after =
    AppendsBeginning before after (report_line (counted old r).queries r)

-- the end was cut off: at the report of the last query, or at the last line
pub data EndsPart (p : Progress) (old : Counts) (before after : Option (List ℕ)) : Type 0 where
  at_report : (r : Option Report) → Closes p.pending r → TellsPart old r before after →
      EndsPart p old before after
  at_last_line : (r : Option Report) (new : Counts) (mid : Option (List ℕ)) →
      Closes p.pending r → Tells old new r before mid →
      AppendsBeginning mid after (last_line new) → EndsPart p old before after

-- the last query has no answer, or the end was cut off
abbrev pub BreaksOff : Progress → Counts → Option (List ℕ) → Option (List ℕ) → RunFault → Type 0
BreaksOff p old before after (faults.Interaction fault) = ⊥
BreaksOff p old before after (faults.Proof fault) = ⊥
BreaksOff p old before after (faults.Line line cause) = ⊥
BreaksOff p old before after (faults.NoAnswer line) = IsUnanswered p.pending × (after ≡ before)
BreaksOff p old before after (faults.Unproved line) = ⊥
BreaksOff p old before after faults.OutOfMemory = EndsPart p old before after
BreaksOff p old before after (faults.Write e) = EndsPart p old before after

-- the last query is over, and the last line is written
abbrev pub Finishes : Progress → Counts → Option (List ℕ) → Option (List ℕ) →
    Result Counts RunFault → Type 0
Finishes p old before after (Ok new) = (r : Option Report) × Closes p.pending r
    × (mid : Option (List ℕ)) × Tells old new r before mid × Appends mid after (last_line new)
Finishes p old before after (Err fault) = BreaksOff p old before after fault
