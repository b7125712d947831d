-- The line of a query.
--     report_line n r      of the query of this number
use Rattle.std.specs.Prelude.{ℕ, List, [], ◌∷◌, ◌++◌, Option, Some, None, codes, decimal}
use Rattle.session_checker.specs.declared.fault.SessionCause.{SessionCause}
use Rattle.session_checker.specs.declared.fault.SessionCause.TheVariants.{BothSigns, IdTaken, MissesAssumption, MissesClause, NoConflict, NotAssumed, NotUnit, UnknownId}
use Rattle.session_text.specs.declared.line.Status.{Status}
use Rattle.session_text.specs.declared.line.Status.TheVariants.{Satisfiable, Unknown, Unsatisfiable}
use Rattle.session_check.specs.declared.report.Reason.{Reason}
use Rattle.session_check.specs.declared.report.Reason.TheVariants.{Lemma, NoConclusion, Refused, SeveralTold, Told}
use Rattle.session_check.specs.declared.report.Report.{Report}

-- the word of an answer
abbrev pub status_text : Status → List ℕ
status_text Satisfiable = codes "satisfiable"
status_text Unsatisfiable = codes "unsatisfiable"
status_text Unknown = codes "unknown"

-- the words of a cause
abbrev pub cause_text : SessionCause → List ℕ
cause_text IdTaken = codes "id is taken"
cause_text UnknownId = codes "no clause has the id of a hint"
cause_text NotUnit = codes "clause of a hint is not unit"
cause_text NoConflict = codes "hints end without a conflict"
cause_text NotAssumed = codes "a literal of the core was not assumed"
cause_text BothSigns = codes "the model has both signs of a variable"
cause_text MissesAssumption = codes "the model does not have an assumption"
cause_text (MissesClause n) = codes "the model has no literal of a clause"

-- why an answer is not shown
abbrev pub reason_text : Reason → List ℕ
reason_text NoConclusion = codes "the proof has no conclusion of it"
reason_text Lemma = codes "a lemma before it does not follow"
reason_text Told = codes "the proof does not show what was reported"
reason_text SeveralTold = codes "several cores were reported"
reason_text (Refused cause) = cause_text cause

-- what follows an answer that is shown: nothing where the solver gave up
abbrev pub shown_text : Status → List ℕ
shown_text Satisfiable = codes ": shown"
shown_text Unsatisfiable = codes ": shown"
shown_text Unknown = []

-- what follows the answer
abbrev pub ending_by : Status → Option Reason → List ℕ
ending_by status None = shown_text status ++ 10 ∷ []
ending_by status (Some reason) = codes ": not shown: " ++ (reason_text reason ++ 10 ∷ [])

abbrev pub ending_text : Report → List ℕ
ending_text r = ending_by r.status r.reason

-- the line of the query of this number
abbrev pub report_line : ℕ → Report → List ℕ
report_line n r = codes "q " ++ (decimal n ++ (codes " " ++ (status_text r.status ++ ending_text r)))
