-- Bytes of an answer, one after the other.
use Rattle.std.proofs.Common.{◌≡◌, ℕ, List, [], ◌∷◌, Some, Ok, Err, sym, ap, ◌∙◌}
use Rattle.std.specs.Prelude.{None, IfSome}
use Rattle.std.specs.Io.KnownBytes.{Consumes, Keeps, IsAtEnd}
use Rattle.sat_formula.specs.Readings.{Known, Leads}
use Rattle.sat_formula.proofs.Readings.{end_here, ends_all, leads_all}
use Rattle.sat_formula.proofs.Readings as readings
use Rattle.sat_formula.specs.declared.read_fault.LineNumber.{LineNumber}
use Rattle.sat_formula.specs.declared.read_fault.UntakenByte.{UntakenByte}
use Rattle.sat_formula.specs.declared.read_fault.UntakenByte.TheVariants as untaken
use Rattle.answer_text.specs.declared.fault.AnswerKind.{AnswerKind}
use Rattle.answer_text.specs.declared.literals.Literals.{Literals}
use Rattle.answer_text.specs.declared.spot.Spot.{Spot}
use Rattle.answer_text.specs.automaton.Answers.{Step, On, Off, step, at_end, outcome_at, outcome_read}
use Rattle.answer_text.specs.Answers.{Outcome, Faulty}
use Rattle.answer_text.specs.Literals.{IsConsistent, listed}
use Rattle.answer_text.specs.automaton.Places.{after}
use Rattle.answer_text.proofs.ConsistencyLemmas.{ended, taken_consistent}
use Rattle.answer_text.proofs.Lines.{are_lines}
use Rattle.sat_formula.specs.ReadFault.{fault_of}
use Rattle.answer_text.specs.automaton.Taking.{IsTaken, Ends}
use Rattle.answer_text.specs.Reading.{IsOutcome, FailsBy, ListsThe}

-- what a byte did, and the bytes after it
abbrev goes_on : Step → List ℕ → Outcome
goes_on d more = elim d [ On lits s ↦ outcome_at lits s more | Off line kind ↦ Faulty line kind ]

-- what was read is what the lines say
by_lines : (a : Known) (o : Outcome) → IfSome a (λ text. outcome_read text ≡ o) → IsOutcome a o
by_lines None o h = tt
by_lines (Some text) o h = sym (are_lines text) ∙ h

-- a byte leads on
pub byte_on : (a b c : Known) (lits : List ℕ) (s : Spot) (x : ℕ) (more : List ℕ) (next : Spot) → Leads a b outcome_read (outcome_at lits s) → Consumes b c (x ∷ []) → step lits s x ≡ On more next
    → Leads a c outcome_read (outcome_at more next)
unfolding outcome_at
byte_on a b c lits s x more next p h e = readings.byte_on x p h (λ m. ap (λ (d : Step). goes_on d m) e)

-- a byte is a fault
byte_off : (a b c : Known) (lits : List ℕ) (s : Spot) (x line : ℕ) (kind : AnswerKind) → Leads a b outcome_read (outcome_at lits s) → Consumes b c (x ∷ []) → step lits s x ≡ Off line kind
    → IsOutcome a (Faulty line kind)
unfolding outcome_at
byte_off a b c lits s x line kind p h e =
    by_lines a (Faulty line kind) (leads_all a c (Faulty line kind) (readings.byte_on x p h (λ m. ap (λ (d : Step). goes_on d m) e)))

-- the text ends
text_ends : (a b c : Known) (lits : List ℕ) (s : Spot) → Leads a b outcome_read (outcome_at lits s) → Keeps b c → IsAtEnd c → IsOutcome a (at_end s.line (step lits s 10))
unfolding outcome_at
text_ends a b c lits s p k e = by_lines a (at_end s.line (step lits s 10)) (ends_all a c (at_end s.line (step lits s 10)) (end_here p k e))

-- ---- what is answered

-- a byte was the fault
pub fails_taken : (a b c : Known) (lits : List ℕ) (s : Spot) (x : ℕ) (table : Literals) (e : UntakenByte LineNumber AnswerKind) → Leads a b outcome_read (outcome_at lits s) → Consumes b c (x ∷ []) →
    IsTaken (step lits s x) table (Err e) → FailsBy a (fault_of e)
fails_taken a b c lits s x table (untaken.Wrong at kind) p h t = byte_off a b c lits s x at.0 kind p h t
fails_taken a b c lits s x table untaken.OutOfMemory p h t = tt

-- the end of the text is the fault
pub ends_off : (line : ℕ) (d : Step) (table : Literals) (e : UntakenByte LineNumber AnswerKind) → IsTaken d table (Err e) → Ends (at_end line d) (Err e)
ends_off line d table (untaken.Wrong at kind) t = ap (at_end line) t
ends_off line d table untaken.OutOfMemory t = tt

-- the whole text was read
pub ends_well : (a b c : Known) (lits : List ℕ) (s : Spot) (table : Literals) → IsConsistent (listed lits) → Leads a b outcome_read (outcome_at lits s) → Keeps b c → IsAtEnd c →
    Ends (at_end s.line (step lits s 10)) (Ok table) → ListsThe a table
ends_well a b c lits s table apart p k e h = record {
  lits = h.0;
  said = rw h.1 at (text_ends a b c lits s p k e);
  apart = ended s.line (step lits s 10) h.0 (λ more next on. taken_consistent lits s.line (after s 10) more next apart on) h.1;
  has = h.2;
}

pub ends_ill : (a b c : Known) (lits : List ℕ) (s : Spot) (e : UntakenByte LineNumber AnswerKind) → Leads a b outcome_read (outcome_at lits s) → Keeps b c → IsAtEnd c → Ends (at_end s.line (step lits s 10)) (Err e)
    → FailsBy a (fault_of e)
ends_ill a b c lits s (untaken.Wrong at kind) p k e h = rw h at (text_ends a b c lits s p k e)
ends_ill a b c lits s untaken.OutOfMemory p k e h = tt
