-- Bytes of a stimulus, one after the other.
use Rattle.std.proofs.Common.{◌≡◌, ℕ, List, [], ◌∷◌, Some, Ok, Err, sym, ap, ◌∙◌}
use Rattle.std.specs.Prelude.{None, IfSome}
use Rattle.std.specs.Io.KnownBytes.{Consumes, Keeps, IsAtEnd}
use Rattle.sat_formula.specs.Readings.{Known, Leads}
use Rattle.sat_formula.proofs.Readings.{end_here, ends_all, leads_all}
use Rattle.sat_formula.proofs.Readings as readings
use Rattle.stimulus_text.specs.declared.fault.StimulusKind.{StimulusKind}
use Rattle.sat_formula.specs.declared.read_fault.LineNumber.{LineNumber}
use Rattle.sat_formula.specs.declared.read_fault.UntakenByte.{UntakenByte}
use Rattle.sat_formula.specs.declared.read_fault.UntakenByte.TheVariants as untaken
use Rattle.stimulus_text.specs.declared.spot.Shape.{Shape}
use Rattle.stimulus_text.specs.declared.spot.Spot.{Spot}
use Rattle.stimulus_text.specs.declared.stimulus.Stimulus.{Stimulus}
use Rattle.stimulus_text.specs.declared.stimulus.Told as read
use Rattle.sat_formula.specs.ReadFault.{fault_of}
use Rattle.stimulus_text.specs.automaton.Taking.{Ends, IsTaken, said_by}
use Rattle.stimulus_text.specs.Faults.{FailsBy, IsFaulty}
use Rattle.stimulus_text.specs.Laws.{said}
use Rattle.stimulus_text.specs.Reading.{IsRead}
use Rattle.stimulus_text.proofs.Written.{are_lines}
use Rattle.stimulus_text.specs.automaton.Items.{Told}
use Rattle.stimulus_text.specs.automaton.Texts.{Outcome, Faulty, Step, On, Off, step, at_end, outcome_at, outcome_of}

-- what the reader finds in the text, if it is known
abbrev IsOutcome : Shape → Known → Outcome → Type 0
IsOutcome shape known o = IfSome known (λ text. outcome_of shape text ≡ o)

-- what a byte did, and the bytes after it
abbrev goes_on : Step → List ℕ → Outcome
goes_on d more = elim d [ On t s ↦ outcome_at t s more | Off line kind ↦ Faulty line kind ]

-- a byte leads on
pub byte_on : (shape : Shape) (a b c : Known) (so_far : Told) (s : Spot) (x : ℕ) (more : Told) (next : Spot) → Leads a b (outcome_of shape) (outcome_at so_far s) → Consumes b c (x ∷ []) →
    step so_far s x ≡ On more next → Leads a c (outcome_of shape) (outcome_at more next)
unfolding outcome_at
byte_on shape a b c so_far s x more next p h e = readings.byte_on x p h (λ m. ap (λ (d : Step). goes_on d m) e)

-- a byte is a fault
byte_off : (shape : Shape) (a b c : Known) (so_far : Told) (s : Spot) (x line : ℕ) (kind : StimulusKind) → Leads a b (outcome_of shape) (outcome_at so_far s) → Consumes b c (x ∷ []) →
    step so_far s x ≡ Off line kind → IsOutcome shape a (Faulty line kind)
unfolding outcome_at
byte_off shape a b c so_far s x line kind p h e = leads_all a c (Faulty line kind) (readings.byte_on x p h (λ m. ap (λ (d : Step). goes_on d m) e))

-- the text ends
text_ends : (shape : Shape) (a b c : Known) (so_far : Told) (s : Spot) → Leads a b (outcome_of shape) (outcome_at so_far s) → Keeps b c → IsAtEnd c → IsOutcome shape a (at_end so_far s)
unfolding outcome_at
text_ends shape a b c so_far s p k e = ends_all a c (at_end so_far s) (end_here p k e)

-- ---- what is returned

read_is : (shape : Shape) (known : Known) (s : Stimulus) → IsOutcome shape known (said_by s) → IsRead shape known s
read_is shape None s h = tt
read_is shape (Some text) s h = sym (are_lines shape text) ∙ ap said h

faulty : (shape : Shape) (known : Known) (line : ℕ) (kind : StimulusKind) → IsOutcome shape known (Faulty line kind) → IfSome known (λ text. IsFaulty shape text line kind)
faulty shape None line kind h = tt
faulty shape (Some text) line kind h = record { of_none = sym (are_lines shape text) ∙ ap said h; first = h }

-- a byte was the fault
pub fails_taken : (shape : Shape) (a b c : Known) (so_far : Told) (s : Spot) (x : ℕ) (told : read.Told) (e : UntakenByte LineNumber StimulusKind) → Leads a b (outcome_of shape) (outcome_at so_far s) → Consumes b c (x ∷ []) →
    IsTaken (step so_far s x) told (Err e) → FailsBy shape a (fault_of e)
fails_taken shape a b c so_far s x told (untaken.Wrong at kind) p h t = faulty shape a at.0 kind (byte_off shape a b c so_far s x at.0 kind p h t)
fails_taken shape a b c so_far s x told untaken.OutOfMemory p h t = tt

-- the whole text was read
pub ends_well : (shape : Shape) (a b c : Known) (so_far : Told) (s : Spot) (stimulus : Stimulus) → Leads a b (outcome_of shape) (outcome_at so_far s) → Keeps b c → IsAtEnd c →
    Ends (at_end so_far s) (Ok stimulus) → IsRead shape a stimulus
ends_well shape a b c so_far s stimulus p k e h = read_is shape a stimulus (rw h at (text_ends shape a b c so_far s p k e))

-- the end of the text is the fault
pub ends_ill : (shape : Shape) (a b c : Known) (so_far : Told) (s : Spot) (e : UntakenByte LineNumber StimulusKind) → Leads a b (outcome_of shape) (outcome_at so_far s) → Keeps b c → IsAtEnd c → Ends (at_end so_far s) (Err e)
    → FailsBy shape a (fault_of e)
ends_ill shape a b c so_far s (untaken.Wrong at kind) p k e h = faulty shape a at.0 kind (rw h at (text_ends shape a b c so_far s p k e))
ends_ill shape a b c so_far s untaken.OutOfMemory p k e h = tt
