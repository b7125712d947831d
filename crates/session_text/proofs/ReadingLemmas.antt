-- Bytes of a text, one after the other.
use Rattle.std.proofs.Common.{◌≡◌, ℕ, List, [], ◌∷◌, Option, None, Some, Result, Ok, Err, ap}
use Rattle.std.specs.Prelude.{IfSome}
use Rattle.std.specs.Io.KnownBytes.{Consumes, IsAtEnd, Keeps}
use Rattle.sat_formula.specs.Readings.{EndsAll, Known, Leads}
use Rattle.sat_formula.proofs.Readings.{end_here, ends_all, leads_all}
use Rattle.sat_formula.proofs.Readings as readings
use Rattle.session_text.specs.declared.fault.TextKind.{TextKind}
use Rattle.sat_formula.specs.declared.read_fault.LineNumber.{LineNumber}
use Rattle.sat_formula.specs.declared.read_fault.ReadFault.{ReadFault}
use Rattle.sat_formula.specs.declared.read_fault.ReadFault.TheVariants as faults
use Rattle.sat_formula.specs.declared.read_fault.UntakenByte.{UntakenByte}
use Rattle.sat_formula.specs.declared.read_fault.UntakenByte.TheVariants as untaken
use Rattle.session_text.specs.declared.line.LineKind.{LineKind}
use Rattle.session_text.specs.declared.spot.Spot.{Spot}
use Rattle.session_text.specs.Content.{Content, no_content}
use Rattle.session_text.specs.declared.reader.SessionReader.{SessionReader}
use Rattle.session_text.specs.NextLine.{Answers, bytes_left, left_to_say}
use Rattle.sat_formula.specs.ReadFault.{fault_of}
use Rattle.session_text.specs.automaton.Reading.{Ends, IsTaken}
use Rattle.session_text.specs.Outcomes.{Ended, Ending, Faulty, Outcome, with_line}
use Rattle.session_text.specs.automaton.Texts.{Off, On, Says, Step, ending_at, outcome_at, step}

-- what a byte did, and the bytes after it
abbrev goes_on : Step → List ℕ → Outcome
goes_on d more = elim d [
  | On c s ↦ outcome_at c s more
  | Says line s ↦ with_line line (outcome_at no_content s more)
  | Off line kind ↦ ([], Faulty line kind)
]

-- a byte does this
byte_on : {a b c : Known} {f : List ℕ → Outcome} (so_far : Content) (s : Spot) (x : ℕ) (d : Step) → Leads a b f (outcome_at so_far s) → Consumes b c (x ∷ []) → step so_far s x ≡ d
    → Leads a c f (goes_on d)
unfolding outcome_at
byte_on so_far s x d l h e = readings.byte_on x l h (λ m. ap (λ (d : Step). goes_on d m) e)

-- it leads on
pub byte_goes : {a b c : Known} {f : List ℕ → Outcome} (so_far : Content) (s : Spot) (x : ℕ) (more : Content) (next : Spot) → Leads a b f (outcome_at so_far s) → Consumes b c (x ∷ []) →
    IsTaken (step so_far s x) more next (Ok None) → Leads a c f (outcome_at more next)
byte_goes so_far s x more next l h t = byte_on so_far s x (On more next) l h t

-- it ends a line
pub byte_says : {a b c : Known} {f : List ℕ → Outcome} (so_far : Content) (s : Spot) (x : ℕ) (more : Content) (next : Spot) (kind : LineKind) → Leads a b f (outcome_at so_far s) →
    Consumes b c (x ∷ []) → IsTaken (step so_far s x) more next (Ok (Some kind)) →
    Leads a c f (λ m. with_line (record { kind = kind; content = more }) (outcome_at no_content next m))
byte_says so_far s x more next kind l h t = byte_on so_far s x (Says (record { kind = kind; content = more }) next) l h t

-- this is said of all bytes, where they are known
abbrev pub IsAll : Known → (List ℕ → Outcome) → Outcome → Type 0
IsAll a f o = IfSome a (λ bytes. f bytes ≡ o)

-- what a fault says of the bytes
abbrev pub FailsBy : Known → (List ℕ → Outcome) → ReadFault LineNumber TextKind → Type 0
FailsBy a f (faults.Read e) = Unit {0}
FailsBy a f (faults.Wrong at kind) = IsAll a f ([], Faulty at.0 kind)
FailsBy a f faults.OutOfMemory = Unit {0}

-- a byte is the fault
pub byte_fails : {a b : Known} (c : Known) {f : List ℕ → Outcome} (so_far : Content) (s : Spot) (x : ℕ) (more : Content) (next : Spot) (stop : UntakenByte LineNumber TextKind) → Leads a b f (outcome_at so_far s) →
    Consumes b c (x ∷ []) → IsTaken (step so_far s x) more next (Err stop) → FailsBy a f (fault_of stop)
byte_fails {a} {b} c so_far s x more next (untaken.Wrong at kind) l h t = leads_all a c ([], Faulty at.0 kind) (byte_on so_far s x (Off at.0 kind) l h t)
byte_fails {a} {b} c so_far s x more next untaken.OutOfMemory l h t = tt

-- the text ends
pub text_ends : {a b : Known} (c : Known) {f : List ℕ → Outcome} (so_far : Content) (s : Spot) → Leads a b f (outcome_at so_far s) → Keeps b c × IsAtEnd c →
    EndsAll a c f ([], ending_at s)
unfolding outcome_at
text_ends c so_far s l k = end_here l k.0 k.1

abbrev pub EndsBy : Known → Known → (List ℕ → Outcome) → Result (Option LineKind) (ReadFault LineNumber TextKind) → Type 0
EndsBy a c f (Ok None) = EndsAll a c f ([], Ended)
EndsBy a c f (Ok (Some kind)) = ⊥
EndsBy a c f (Err fault) = FailsBy a f fault

-- well or not
pub ends_by : {a : Known} (c : Known) {f : List ℕ → Outcome} (e : Ending) (r : Result (Option LineKind) (ReadFault LineNumber TextKind)) → EndsAll a c f ([], e) → Ends e r → EndsBy a c f r
ends_by {a} c e (Ok None) l h = rw h at l
ends_by {a} c e (Ok (Some kind)) l h = absurd h
ends_by {a} c e (Err (faults.Read error)) l h = absurd h
ends_by {a} c e (Err (faults.Wrong at kind)) l h = rw h at (ends_all a c ([], e) l)
ends_by {a} c e (Err faults.OutOfMemory) l h = absurd h

-- what a call answers by that
pub answers_fault : {R : Type 0} (remaining : R → Known) (old new : SessionReader R) (e : ReadFault LineNumber TextKind) → FailsBy (bytes_left remaining old) (left_to_say old) e →
    Answers remaining old new (Err e)
answers_fault remaining old new (faults.Read e) h = tt
answers_fault remaining old new (faults.Wrong at kind) h = h
answers_fault remaining old new faults.OutOfMemory h = tt

pub answers_end : {R : Type 0} (remaining : R → Known) (old new : SessionReader R) (r : Result (Option LineKind) (ReadFault LineNumber TextKind)) →
    EndsBy (bytes_left remaining old) (bytes_left remaining new) (left_to_say old) r → Answers remaining old new r
answers_end remaining old new (Ok None) h = h
answers_end remaining old new (Ok (Some kind)) h = absurd h
answers_end remaining old new (Err fault) h = answers_fault remaining old new fault h
