-- What a call for the next step answers.
--     bytes_left, room_left, steps_given, has_ended, format_now, work_left, IsReadError      what a caller knows of a reader
--     Gives      what a call gave, and the reader after it
use Rattle.std.specs.Prelude.{◌≡◌, ℕ, suc, ◌<◌, Bool, true, false, List, [], Option, Some, None, Result, Ok, Err, IfSome, IfOk, OnOk, ◌≤◌, unwrap_or, if◌then◌else◌}
use Rattle.std.specs.declared.io.Error.{Error}
use Rattle.sat_formula.specs.Outcome.{next_line}
use Rattle.std.specs.Io.KnownBytes.{Keeps}
use Rattle.sat_formula.specs.declared.source.Source.{Source}
use Rattle.sat_formula.specs.Source.{IsErrorOf, IsStopped}
use Rattle.drat_text.specs.declared.bytes.Format.{Format}
use Rattle.drat_text.specs.declared.bytes.Format.TheVariants as formats
use Rattle.sat_formula.specs.declared.read_fault.ReadFault.TheVariants as faults
use Rattle.drat_text.specs.Faults.{DratFault, step_fault}
use Rattle.drat_text.specs.declared.fault.DratKind.{DratKind}
use Rattle.sat_formula.specs.declared.stop.Stop.{Stop}
use Rattle.sat_formula.specs.declared.stop.Stop.TheVariants as stops
use Rattle.drat_text.specs.declared.reader.StepReader.{StepReader}
use Rattle.drat_text.specs.declared.step.StepEnd.{StepEnd}
use Rattle.drat_text.specs.Places.{Rules}
use Rattle.drat_text.specs.Proofs.{format_of, outcome_at, outcome_in}
use Rattle.drat_text.specs.Steps.{Ended, Faulty, Outcome}
use Rattle.drat_text.specs.Reading.{GivesStep, ReadsStep}
use Rattle.drat_text.specs.Taking.{unread_bytes, room_in, source_of, EndsAll, Breaks, Fails}

-- ---- a reader

module _ {G R : Type 0} where
  -- what was read of the step
  abbrev pub draft_of : StepReader G R → G
  draft_of r = r.draft

  -- the bytes that are still to come, if the reader beneath says them
  abbrev pub bytes_left : (R → Option (List ℕ)) → StepReader G R → Option (List ℕ)
  bytes_left remaining r = unread_bytes remaining r.bytes

  -- how many more bytes it takes at most
  abbrev pub room_left : StepReader G R → ℕ
  room_left r = room_in r.bytes

  -- no step comes any more
  abbrev pub has_ended : StepReader G R → Bool
  has_ended r = r.ended

  -- how many steps it gave
  abbrev pub steps_given : StepReader G R → ℕ
  steps_given r = r.steps

  -- the format, where it was detected
  abbrev pub known_format : StepReader G R → Option Format
  known_format r = r.format

  -- how it reads steps now
  abbrev pub format_now : StepReader G R → Format
  format_now r = unwrap_or (known_format r) formats.Text

  -- a number that falls with each step that is given
  abbrev pub work_left : StepReader G R → ℕ
  work_left r = if has_ended r then 0 else suc (room_left r)

  -- the error of the read that failed, or where none did and the proof is too long, one that says so
  abbrev pub IsReadError : StepReader G R → Error → Type 0
  IsReadError r e = IsErrorOf (source_of r.bytes) e

-- no byte was taken, where memory was found
abbrev pub Looked : {R X : Type 0} → Option (List ℕ) → Option (List ℕ) → Source R →
    Result X (Stop DratKind) → Type 0
Looked old new source (Ok x) = Keeps old new
Looked old new source (Err stops.End) = ⊥
Looked old new source (Err stops.Read) = Keeps old new × IsStopped source
Looked old new source (Err (stops.Wrong kind)) = ⊥
Looked old new source (Err stops.OutOfMemory) = Unit {0}

-- what a stop answers, with this source, after this many steps
abbrev pub Explains : {R X : Type 0} → Source R → ℕ → Stop DratKind → Result (Option X) DratFault → Type 0
Explains source steps stops.End r = r ≡ Ok None
Explains source steps stops.Read (Ok x) = ⊥
Explains source steps stops.Read (Err (faults.Read e)) = IsErrorOf source e
Explains source steps stops.Read (Err (faults.Wrong at kind)) = ⊥
Explains source steps stops.Read (Err faults.OutOfMemory) = ⊥
Explains source steps (stops.Wrong kind) r = r ≡ Err (step_fault (next_line steps) kind)
Explains source steps stops.OutOfMemory r = r ≡ Err faults.OutOfMemory

-- ---- a call, by the rules of the proof

module _ {G R S T : Type 0} (rules : Rules S T) (remaining : R → Option (List ℕ)) where
  -- the format of these bytes to come: it stays, and is detected from them before the first step
  abbrev pub format_for : StepReader G R → List ℕ → Format
  format_for r bytes = unwrap_or (known_format r) (format_of rules bytes)

  -- the format is that of the bytes
  abbrev pub TellsFormat : StepReader G R → StepReader G R → Type 0
  TellsFormat old new =
      IfSome (bytes_left remaining old) (λ bytes. format_now new ≡ format_for old bytes)

  -- what the bytes to come say, in the format of the reader after the call
  abbrev pub left_to_say : StepReader G R → List ℕ → Outcome T
  left_to_say new bytes = outcome_in rules (format_now new) bytes

  -- a call's answer, where a step is seen so: the next step of the proof, its end or its fault
  abbrev pub Answers : {X : Type 0} → (X → T) → StepReader G R → StepReader G R →
      Result (Option X) DratFault → Type 0
  Answers seen old new (Ok (Some x)) =
      GivesStep rules (format_now new) (bytes_left remaining old) (bytes_left remaining new)
      (left_to_say new) (seen x) (has_ended new)
      × TellsFormat old new
      × (steps_given new ≡ next_line (steps_given old)) × (work_left new < work_left old)
  Answers seen old new (Ok None) =
      EndsAll (bytes_left remaining old) (bytes_left remaining new) (left_to_say new) ([], Ended)
      × TellsFormat old new
      × (steps_given new ≡ steps_given old) × (has_ended new ≡ true)
  Answers seen old new (Err (faults.Read e)) =
      Breaks (outcome_at rules (format_now new)) (bytes_left remaining old)
      (bytes_left remaining new) (left_to_say new)
      × IsReadError new e × (steps_given new ≡ steps_given old) × (has_ended new ≡ true)
  Answers seen old new (Err (faults.Wrong at kind)) =
      Fails (bytes_left remaining old) (bytes_left remaining new) (left_to_say new)
      ([], Faulty kind)
      × TellsFormat old new
      × (at.0 ≡ next_line (steps_given old))
      × (steps_given new ≡ steps_given old) × (has_ended new ≡ true)
  Answers seen old new (Err faults.OutOfMemory) =
      (steps_given new ≡ steps_given old) × (has_ended new ≡ true)

  -- the call gave the next step, the end or the fault of the proof; after the end or a fault it gives none and stays as it is
  pub record Gives {X : Type 0} (seen : X → T) (old new : StepReader G R)
      (r : Result (Option X) DratFault) : Type 0 where
    pub reads : has_ended old ≡ false → Answers seen old new r
    pub stays : has_ended old ≡ true → (r ≡ Ok None) × (new ≡ old)
    pub format : (format : Format) → known_format old ≡ Some format
        → known_format new ≡ Some format

  -- the format was detected, unless a read failed or memory ran out
  abbrev pub ToldBy : {X : Type 0} → StepReader G R → StepReader G R → Result X (Stop DratKind) → Type 0
  ToldBy old new (Ok x) = TellsFormat old new
  ToldBy old new (Err stops.End) = TellsFormat old new
  ToldBy old new (Err (stops.Wrong kind)) = TellsFormat old new
  ToldBy old new (Err stops.Read) = Unit {0}
  ToldBy old new (Err stops.OutOfMemory) = Unit {0}

  -- a step was read into the draft, or none
  pub record ReadsOn {F : Type 0} (seen : F → T) (old new : StepReader G R)
      (r : Result (StepEnd F) (Stop DratKind)) : Type 0 where
    pub step : ReadsStep rules (format_now new) seen (bytes_left remaining old)
        (bytes_left remaining new) (left_to_say new) (source_of new.bytes) r
    pub nearer : IfOk r (λ _. room_in new.bytes < room_in old.bytes)
    pub stays : (format : Format) → known_format old ≡ Some format
        → known_format new ≡ Some format
    pub told : ToldBy old new r
    pub steps : steps_given new ≡ steps_given old
    pub ended : has_ended new ≡ has_ended old

  -- the format was detected, and no byte taken
  pub record SeesFormat (old new : StepReader G R) (r : Result Format (Stop DratKind)) : Type 0 where
    pub looks : Looked (bytes_left remaining old) (bytes_left remaining new) (source_of new.bytes) r
    pub format : OnOk r (TellsFormat old new)
    pub now : IfOk r (λ format. known_format new ≡ Some format)
    pub room : room_in new.bytes ≤ room_in old.bytes
    pub stays : (format : Format) → known_format old ≡ Some format
        → known_format new ≡ Some format
    pub steps : steps_given new ≡ steps_given old
    pub ended : has_ended new ≡ has_ended old
