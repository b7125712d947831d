-- What a reader of LRAT gives, as lines of hints.
--     ids_along hints      the ids of hints, unless one is against
--     as_hints line, lines_said ls      the line of hints that a line is, or none;  the lines of hints that lines are
--     Stops k ls ending n fault      what comes next is rejected, or can't be read
--     of_text fault, of_untaken untaken      the fault of a text that can't be read, or of which a line was not taken
--     of_bytes fault      that of a text in memory
--     CollectsIds ids r hints      the ids were collected, or why they were not
use Rattle.std.specs.Prelude.{◌≡◌, ℕ, List, [], ◌∷◌, Option, Some, None, Result, Ok, Err}
use Rattle.sat_rules.specs.HintLines.{HintLine, Listed, deletes_clauses}
use Rattle.lrat_rules.specs.Lines.{Hint, Line, adds, against, along, deletes}
use Rattle.lrat_text.specs.Texts.{Ended, Ending, Faulty}
use Rattle.sat_formula.specs.declared.read_fault.ReadFault.TheVariants as reads
use Rattle.lrat_text.specs.Faults.{LratTextFault}
use Rattle.lrat_binary.specs.declared.sink.UntakenLine.{UntakenLine}
use Rattle.lrat_binary.specs.declared.sink.UntakenLine.TheVariants.{Proof, Sink}
use Rattle.hint_rules.specs.Accepted.{joined}
use Rattle.hint_checker.specs.Checked.{in_line, refusal}
use Rattle.hint_rules.specs.Text as text
use Rattle.hint_rules.specs.Text.{Said, addition, in_front, said}
use Rattle.hint_checker.specs.declared.fault.HintFault.{HintFault}
use Rattle.hint_checker.specs.declared.fault.HintFault.TheVariants as faults
use Rattle.hint_checker.specs.declared.fault.HintTextFault.{HintTextFault}
use Rattle.hint_checker.specs.declared.fault.HintTextFault.TheVariants.{Read, Refused}
use Rattle.hint_checker.specs.declared.fault.LineFault.{LineFault}
use Rattle.hint_checker.specs.declared.fault.LineFault.TheVariants.{IdNotGreater, Malformed, NoConflict, NotUnit, OutOfMemory, UnknownId}

-- the ids of hints, unless one is against
abbrev pub ids_along : List Hint → Option (List ℕ)
ids_along [] = Some []
ids_along (along i ∷ hs) = in_front i (ids_along hs)
ids_along (against d ∷ hs) = None

-- the line of hints; the number of a deletion says nothing
abbrev pub as_hints : Line → Said
as_hints (adds id c hs) = said (addition id c (ids_along hs))
as_hints (deletes ids) = text.Line (deletes_clauses 0 ids)

-- the lines of hints, unless one has a hint against
abbrev pub lines_said : List (ℕ × Line) → Option (List HintLine)
lines_said [] = Some []
lines_said (x ∷ xs) = joined (as_hints x.1) (lines_said xs)

-- what comes next is a line of this number that is rejected, or one that can't be read
abbrev pub Stops : Listed → List (ℕ × Line) → Ending → ℕ → LineFault → Type 0
Stops k [] Ended n fault = ⊥
Stops k [] (Faulty number kind) n fault = (n ≡ number) × (fault ≡ Malformed)
Stops k (x ∷ xs) ending n fault = (n ≡ x.0) × (refusal k (as_hints x.1) ≡ Some fault)

-- the fault of a text that can't be read: whatever is wrong with a line, it is malformed
abbrev pub of_text : LratTextFault → HintTextFault
of_text (reads.Read cause) = Read cause
of_text (reads.Wrong at kind) = Refused (faults.Malformed at.0)
of_text reads.OutOfMemory = Refused faults.OutOfMemory

-- the fault of a text of which a line was not taken
abbrev pub of_untaken : UntakenLine LineFault → HintTextFault
of_untaken (Proof fault) = of_text fault
of_untaken (Sink n fault) = Refused (in_line fault n)

-- the fault of a text in memory, of which no read fails
abbrev pub of_bytes : HintTextFault → HintFault
of_bytes (Refused fault) = fault
of_bytes (Read cause) = faults.OutOfMemory

-- the ids of the hints; or one is against, or there was no memory for them
abbrev pub CollectsIds : List ℕ → Result Unit LineFault → Option (List ℕ) → Type 0
CollectsIds ids (Ok done) o = o ≡ Some ids
CollectsIds ids (Err Malformed) o = o ≡ None
CollectsIds ids (Err OutOfMemory) o = Unit {0}
CollectsIds ids (Err IdNotGreater) o = ⊥
CollectsIds ids (Err UnknownId) o = ⊥
CollectsIds ids (Err NotUnit) o = ⊥
CollectsIds ids (Err NoConflict) o = ⊥
