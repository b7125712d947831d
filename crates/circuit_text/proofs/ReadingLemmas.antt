-- Bytes of a circuit, one after the other.
use Rattle.std.proofs.Common.{◌≡◌, ℕ, List, [], ◌∷◌, Some, Ok, Err, sym, ap, ◌∙◌}
use Rattle.std.specs.Prelude.{None, IfSome}
use Rattle.std.specs.Io.KnownBytes.{Consumes, Keeps, IsAtEnd}
use Rattle.sat_formula.specs.Readings.{Known, Leads}
use Rattle.sat_formula.proofs.Readings.{end_here, ends_all, leads_all}
use Rattle.sat_formula.proofs.Readings as readings
use Rattle.circuit_text.specs.declared.circuit.Circuit as read
use Rattle.circuit_text.specs.declared.fault.AigerKind.{AigerKind}
use Rattle.circuit_text.specs.declared.fault.Location.{Location}
use Rattle.sat_formula.specs.declared.read_fault.UntakenByte.{UntakenByte}
use Rattle.sat_formula.specs.declared.read_fault.UntakenByte.TheVariants as untaken
use Rattle.circuit_text.specs.declared.spot.Spot.{Spot}
use Rattle.sat_formula.specs.ReadFault.{fault_of}
use Rattle.circuit_text.specs.automaton.Aigers.{Outcome, Says, Faulty, Step, On, Off, step, at_end, outcome_at, outcome_of}
use Rattle.circuit_text.specs.automaton.Taking.{Ends, IsTaken}
use Rattle.circuit_text.specs.Circuits.{Circuit, circuit_of}
use Rattle.circuit_text.specs.Faults.{FailsBy, IsFaulty}
use Rattle.circuit_text.specs.Reading.{IsRead}
use Rattle.circuit_text.proofs.WrittenBoth.{is_read, is_written}

-- what the reader finds in the text, if it is known
abbrev IsOutcome : Known → Outcome → Type 0
IsOutcome known o = IfSome known (λ text. outcome_of text ≡ o)

-- what a byte did, and the bytes after it
abbrev goes_on : Step → List ℕ → Outcome
goes_on d more = elim d [ On c s ↦ outcome_at c s more | Off at kind ↦ Faulty at kind ]

-- a byte leads on
pub byte_on : (a b c : Known) (so_far : Circuit) (s : Spot) (x : ℕ) (more : Circuit) (next : Spot) → Leads a b outcome_of (outcome_at so_far s) → Consumes b c (x ∷ []) →
    step so_far s x ≡ On more next → Leads a c outcome_of (outcome_at more next)
unfolding outcome_at
byte_on a b c so_far s x more next p h e = readings.byte_on x p h (λ m. ap (λ (d : Step). goes_on d m) e)

-- a byte is a fault
byte_off : (a b c : Known) (so_far : Circuit) (s : Spot) (x : ℕ) (at : Location) (kind : AigerKind) → Leads a b outcome_of (outcome_at so_far s) → Consumes b c (x ∷ []) →
    step so_far s x ≡ Off at kind → IsOutcome a (Faulty at kind)
unfolding outcome_at
byte_off a b c so_far s x at kind p h e = leads_all a c (Faulty at kind) (readings.byte_on x p h (λ m. ap (λ (d : Step). goes_on d m) e))

-- the text ends
text_ends : (a b c : Known) (so_far : Circuit) (s : Spot) → Leads a b outcome_of (outcome_at so_far s) → Keeps b c → IsAtEnd c → IsOutcome a (at_end so_far s)
unfolding outcome_at
text_ends a b c so_far s p k e = ends_all a c (at_end so_far s) (end_here p k e)

-- ---- what is returned

said : (known : Known) (c : read.Circuit) → IsOutcome known (Says (circuit_of c)) → IsRead known c
said None c h = tt
said (Some text) c h = is_written text (circuit_of c) h

no_circuit_said : (at : Location) (kind : AigerKind) (c : Circuit) → Faulty at kind ≡ Says c → ⊥
no_circuit_said at kind c e = cc

faulty : (known : Known) (at : Location) (kind : AigerKind) → IsOutcome known (Faulty at kind) → IfSome known (λ text. IsFaulty text at kind)
faulty None at kind h = tt
faulty (Some text) at kind h = record { of_none = λ c is. no_circuit_said at kind c (sym h ∙ is_read text c is); first = h }

-- a byte was the fault
pub fails_taken : (a b c : Known) (so_far : Circuit) (s : Spot) (x : ℕ) (circuit : read.Circuit) (e : UntakenByte Location AigerKind) → Leads a b outcome_of (outcome_at so_far s) → Consumes b c (x ∷ []) →
    IsTaken (step so_far s x) circuit (Err e) → FailsBy a (fault_of e)
fails_taken a b c so_far s x circuit (untaken.Wrong at kind) p h t = faulty a at kind (byte_off a b c so_far s x at kind p h t)
fails_taken a b c so_far s x circuit untaken.OutOfMemory p h t = tt

-- the whole text was read
pub ends_well : (a b c : Known) (so_far : Circuit) (s : Spot) (circuit : read.Circuit) → Leads a b outcome_of (outcome_at so_far s) → Keeps b c → IsAtEnd c →
    Ends (at_end so_far s) (Ok circuit) → IsRead a circuit
ends_well a b c so_far s circuit p k e h = said a circuit (rw h at (text_ends a b c so_far s p k e))

-- the end of the text is the fault
pub ends_ill : (a b c : Known) (so_far : Circuit) (s : Spot) (e : UntakenByte Location AigerKind) → Leads a b outcome_of (outcome_at so_far s) → Keeps b c → IsAtEnd c → Ends (at_end so_far s) (Err e)
    → FailsBy a (fault_of e)
ends_ill a b c so_far s (untaken.Wrong at kind) p k e h = faulty a at kind (rw h at (text_ends a b c so_far s p k e))
ends_ill a b c so_far s untaken.OutOfMemory p k e h = tt
