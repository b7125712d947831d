-- The clauses of a text, which something takes one after the other.
--     Takes r taken refused      a clause was taken, or it was not, for this fault
--     TakesWhole known taken summary      all clauses of a text were taken
--     TakesSome known taken refused why      the first of them were, and then the text or a clause had this fault
--     cut_by why, IsCut fault some      the fault of it, where a sink has none but out of memory;  the first of them were, and then this fault came
use Rattle.std.specs.Prelude.{◌≡◌, ℕ, List, length, Option, Result, Ok, Err}
use Rattle.std.specs.Option.{option_map}
use Rattle.sat_formula.specs.Lines.{outcome_of}
use Rattle.sat_formula.specs.Notes.{Notes, notes_of}
use Rattle.sat_formula.specs.Noting.{BeginsOn, IsNotes}
use Rattle.sat_formula.specs.Outcome.{Ended}
use Rattle.sat_formula.specs.Whole.{BeginsWith, FailsAfter, IsOutcome}
use Rattle.sat_formula.specs.Lies.{counts_of}
use Rattle.sat_formula.specs.declared.fault.DimacsFault.{DimacsFault}
use Rattle.sat_formula.specs.declared.fault.DimacsFault.TheVariants.{OutOfMemory}
use Rattle.sat_formula.specs.declared.sink.Summary.{Summary}
use Rattle.sat_formula.specs.declared.sink.UntakenClause.{UntakenClause}
use Rattle.sat_formula.specs.declared.sink.UntakenClause.TheVariants.{Text, Sink}

-- the first where it is taken, the second of its fault
abbrev pub Takes : {E : Type 0} → Result (Unit {0}) E → Type 0 → (E → Type 0) → Type 0
Takes (Ok done) taken refused = taken
Takes (Err fault) taken refused = refused fault

-- the whole text is these clauses, which end on these lines and were taken; the header and the counts are those of it
pub record TakesWhole (known : Option (List ℕ)) (taken : List (List ℕ) → List ℕ → Type 0)
    (summary : Summary) : Type 0 where
  pub clauses : List (List ℕ)
  pub whole : IsOutcome (option_map outcome_of known) (clauses, Ended)
  pub notes : Notes
  pub noted : IsNotes (option_map notes_of known) notes
  pub holds : taken clauses notes.0
  pub header : summary.header ≡ notes.1.header
  pub counts : summary.counts ≡ counts_of clauses
  pub number : summary.counts.clauses ≡ length clauses

-- these clauses were taken, which end on these lines, and the text has this fault after them; or all but the last were, and the sink has this fault at it
abbrev pub TakesSome : {E : Type 0} → Option (List ℕ) → (List (List ℕ) → List ℕ → Type 0) →
    (List (List ℕ) → E → Type 0) → UntakenClause E → Type 0
TakesSome known taken refused (Text fault) = (clauses : List (List ℕ)) × (lines : List ℕ)
    × FailsAfter (option_map outcome_of known) clauses fault × taken clauses lines × BeginsOn (option_map notes_of known) lines
TakesSome known taken refused (Sink fault) = (clauses : List (List ℕ))
    × BeginsWith (option_map outcome_of known) clauses × refused clauses fault

-- the fault of the text, or out of memory where the sink refused a clause
abbrev pub cut_by : {E : Type 0} → UntakenClause E → DimacsFault
cut_by (Text fault) = fault
cut_by (Sink e) = OutOfMemory

-- the first clauses were taken, up to this fault
abbrev pub IsCut : {E : Type 0} → DimacsFault → (UntakenClause E → Type 0) → Type 0
IsCut {E} fault some = (why : UntakenClause E) × some why × fault ≡ cut_by why
