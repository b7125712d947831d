-- What was taken from a reader's bytes, and what it says of them.
use Rattle.std.specs.Prelude.{◌≡◌, ℕ, ◌+◌, ◌-◌, List, [], ◌∷◌, Option, unwrap_or, length, drop, nat_lt, if◌then◌else◌, slice_get, Result, Ok, Err, IfSome}
use Rattle.std.specs.Io.KnownBytes.{Consumes, Keeps, IsAtEnd, prepend_known}
use Rattle.sat_formula.specs.declared.source.Source.{Source}
pub use Rattle.sat_formula.specs.Readings.{Leads, EndsAll, Breaks, Fails, by_byte, by_end}
use Rattle.sat_formula.specs.Source.{ahead_of, unread, room_of, IsStopped}
use Rattle.drat_text.specs.declared.bytes.Bytes.{Bytes}
use Rattle.drat_text.specs.declared.bytes.Format.{Format}
use Rattle.drat_text.specs.declared.fault.DratKind.{DratKind}
use Rattle.drat_text.specs.declared.fault.DratKind.TheVariants.{Unfinished}
use Rattle.sat_formula.specs.declared.stop.Stop.{Stop}
use Rattle.sat_formula.specs.declared.stop.Stop.TheVariants as stops
use Rattle.drat_text.specs.Places.{Rules}
use Rattle.drat_text.specs.Proofs.{outcome_at}
use Rattle.drat_text.specs.Steps.{Outcome, Ended, Faulty}

-- the source after what was looked at
abbrev pub source_of : {R : Type 0} → Bytes R → Source R
source_of s = s.source

-- what was looked at and not taken
abbrev pub front_of : {R : Type 0} → Bytes R → List ℕ
front_of s = drop s.taken s.front.items

-- the bytes that were not taken, where they are known
abbrev pub unread_bytes : {R : Type 0} → (R → Option (List ℕ)) → Bytes R → Option (List ℕ)
unread_bytes remaining s = prepend_known (front_of s) (unread remaining s.source)

-- what is read ahead, unless bytes come in front of it
abbrev pub ahead_in : {R : Type 0} → Bytes R → List ℕ
ahead_in s = if nat_lt s.taken (length s.front.items) then [] else ahead_of s.source

-- how many bytes it can still give
abbrev pub room_in : {R : Type 0} → Bytes R → ℕ
room_in s = (length s.front.items - s.taken) + unwrap_or (room_of s.source) 0

-- a byte was taken, or none for this reason
abbrev pub Takes : {R : Type 0} → Option (List ℕ) → Option (List ℕ) → Source R → Result ℕ (Stop DratKind) →
    Type 0
Takes old new source (Ok byte) = Consumes old new (byte ∷ [])
Takes old new source (Err stops.End) = Keeps old new × IsAtEnd new
Takes old new source (Err stops.Read) = Keeps old new × IsStopped source
Takes old new source (Err (stops.Wrong kind)) = ⊥
Takes old new source (Err stops.OutOfMemory) = Unit {0}

-- a byte of a step that was begun: it is unfinished where the input ends
abbrev pub TakesWithin : {R : Type 0} → Option (List ℕ) → Option (List ℕ) → Source R →
    Result ℕ (Stop DratKind) → Type 0
TakesWithin old new source (Ok byte) = Consumes old new (byte ∷ [])
TakesWithin old new source (Err stops.End) = ⊥
TakesWithin old new source (Err stops.Read) = Keeps old new × IsStopped source
TakesWithin old new source (Err (stops.Wrong kind)) = Keeps old new × IsAtEnd new
    × (kind ≡ Unfinished)
TakesWithin old new source (Err stops.OutOfMemory) = Unit {0}

-- what f detects of the bytes, none of which was taken
abbrev pub Looks : {R X : Type 0} → (List ℕ → X) → Option (List ℕ) → Option (List ℕ) →
    Source R → Result X (Stop DratKind) → Type 0
Looks f old new source (Ok x) = Keeps old new × IfSome old (λ bytes. x ≡ f bytes)
Looks f old new source (Err stops.End) = ⊥
Looks f old new source (Err stops.Read) = Keeps old new × IsStopped source
Looks f old new source (Err (stops.Wrong kind)) = ⊥
Looks f old new source (Err stops.OutOfMemory) = Unit {0}

-- the byte at this place of those to come, or none where they end before it; none was taken
abbrev pub Peeks : {R : Type 0} → Option (List ℕ) → Option (List ℕ) → ℕ → Source R →
    Result (Option ℕ) (Stop DratKind) → Type 0
Peeks old new place source (Ok byte) =
    Keeps old new × IfSome old (λ bytes. slice_get bytes place ≡ byte)
Peeks old new place source (Err stops.End) = ⊥
Peeks old new place source (Err stops.Read) = Keeps old new × IsStopped source
Peeks old new place source (Err (stops.Wrong kind)) = ⊥
Peeks old new place source (Err stops.OutOfMemory) = Unit {0}

-- what a stop says, with this source: where the outcome at a place is so, a whole input's end gives this, and a fault gives this
abbrev pub StopsBy : {R P O : Type 0} → (P → List ℕ → O) → O → (DratKind → O) → Option (List ℕ) →
    Option (List ℕ) → (List ℕ → O) → Source R → Stop DratKind → Type 0
StopsBy at ended faulty old new f source stops.End = EndsAll old new f ended
StopsBy at ended faulty old new f source stops.Read = Breaks at old new f × IsStopped source
StopsBy at ended faulty old new f source (stops.Wrong kind) = Fails old new f (faulty kind)
StopsBy at ended faulty old new f source stops.OutOfMemory = Unit {0}

-- the same by the rules of a proof
abbrev pub Stopped : {R S T : Type 0} → Rules S T → Format → Option (List ℕ) →
    Option (List ℕ) → (List ℕ → Outcome T) → Source R → Stop DratKind → Type 0
Stopped r format old new f source stop =
    StopsBy (outcome_at r format) ([], Ended) (λ kind. ([], Faulty kind)) old new f source stop
