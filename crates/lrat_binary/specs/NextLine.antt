-- What `next_line` answers.
--     bytes_left, room_left, line_number, has_ended, work_left, ids_of, IsReadError      what a caller knows of a reader
--     Gives      what a call gave, and the reader after it
use Rattle.std.specs.Prelude.{◌≡◌, ℕ, suc, ◌<◌, Bool, true, false, List, [], Option, Some, None, Result, Ok, Err, if◌then◌else◌}
use Rattle.std.specs.declared.io.Error.{Error}
use Rattle.sat_formula.specs.Outcome.{next_line}
use Rattle.sat_formula.specs.Readings.{Leads, EndsAll, Breaks, Fails}
use Rattle.sat_formula.specs.declared.source.Source.{Source}
use Rattle.sat_formula.specs.Source.{IsErrorOf}
use Rattle.lrat_rules.specs.Lines.{Line}
use Rattle.drat_text.specs.Taking.{unread_bytes, room_in, source_of}
use Rattle.drat_text.specs.declared.fault.DratKind.{DratKind}
use Rattle.sat_formula.specs.declared.stop.Stop.{Stop}
use Rattle.sat_formula.specs.declared.stop.Stop.TheVariants as stops
use Rattle.lrat_text.specs.NextLine.{view}
use Rattle.lrat_text.specs.Texts.{Ended, Faulty, Outcome, with_line}
use Rattle.sat_formula.specs.declared.read_fault.ReadFault.TheVariants as faults
use Rattle.lrat_text.specs.Faults.{LratTextFault, line_fault}
use Rattle.lrat_text.specs.declared.line.LratLine.{LratLine}
use Rattle.lrat_binary.specs.declared.ids.Ids.{Ids}
use Rattle.lrat_binary.specs.declared.reader.BinaryReader.{BinaryReader}
use Rattle.lrat_binary.specs.Kinds.{line_kind}
use Rattle.lrat_binary.specs.Lines.{binary_after, outcome_at}

-- the bytes that are still to come, if the reader beneath says them
abbrev pub bytes_left : {R : Type 0} → (R → Option (List ℕ)) → BinaryReader R → Option (List ℕ)
bytes_left remaining r = unread_bytes remaining r.bytes

-- how many more bytes it takes at most
abbrev pub room_left : {R : Type 0} → BinaryReader R → ℕ
room_left r = room_in r.bytes

-- no line comes any more
abbrev pub has_ended : {R : Type 0} → BinaryReader R → Bool
has_ended r = r.ended

-- the number of the last line that was read, 0 before the first
abbrev pub line_number : {R : Type 0} → BinaryReader R → ℕ
line_number r = r.number

-- the encoding of ids
abbrev pub ids_of : {R : Type 0} → BinaryReader R → Ids
ids_of r = r.ids

-- a number that falls with each line that is given
abbrev pub work_left : {R : Type 0} → BinaryReader R → ℕ
work_left r = if has_ended r then 0 else suc (room_left r)

-- the error of the read that failed, or where none did and the proof is too long, one that says so
abbrev pub IsReadError : {R : Type 0} → BinaryReader R → Error → Type 0
IsReadError r e = IsErrorOf (source_of r.bytes) e

-- what is left to say after the lines that were read
abbrev pub rest_of : {R : Type 0} → BinaryReader R → List ℕ → Outcome
rest_of r more = binary_after (ids_of r) (line_number r) more

-- a call's answer, where a line is seen so: the next line of the proof, its end or its fault
abbrev pub Answers : {R X : Type 0} → (R → Option (List ℕ)) → (X → Line) → BinaryReader R →
    BinaryReader R → Result (Option X) LratTextFault → Type 0
Answers remaining seen old new (Ok (Some x)) =
    Leads (bytes_left remaining old) (bytes_left remaining new) (rest_of old)
    (λ more. with_line (line_number new) (seen x) (rest_of new more))
    × (has_ended new ≡ false) × (work_left new < work_left old)
Answers remaining seen old new (Ok None) =
    EndsAll (bytes_left remaining old) (bytes_left remaining new) (rest_of old)
    ([], Ended)
    × (has_ended new ≡ true)
Answers remaining seen old new (Err (faults.Read e)) =
    Breaks (outcome_at (ids_of old) (line_number old)) (bytes_left remaining old)
    (bytes_left remaining new) (rest_of old)
    × IsReadError new e × (has_ended new ≡ true)
Answers remaining seen old new (Err (faults.Wrong at kind)) =
    Fails (bytes_left remaining old) (bytes_left remaining new) (rest_of old)
    ([], Faulty at.0 kind)
    × (at.0 ≡ line_number new) × (has_ended new ≡ true)
Answers remaining seen old new (Err faults.OutOfMemory) = has_ended new ≡ true

-- the number of the line of which a call speaks
abbrev pub Numbers : {R X : Type 0} → BinaryReader R → BinaryReader R →
    Result (Option X) LratTextFault → Type 0
Numbers old new (Ok (Some x)) = line_number new ≡ next_line (line_number old)
Numbers old new (Ok None) = line_number new ≡ line_number old
Numbers old new (Err (faults.Read e)) = line_number new ≡ line_number old
Numbers old new (Err (faults.Wrong at kind)) = line_number new ≡ next_line (line_number old)
Numbers old new (Err faults.OutOfMemory) = line_number new ≡ line_number old

-- the call gave the next line, the end or the fault of the proof; after the end or a fault it gives none and stays as it is
pub record Gives {R : Type 0} (remaining : R → Option (List ℕ)) (old new : BinaryReader R)
    (r : Result (Option LratLine) LratTextFault) : Type 0 where
  pub reads : has_ended old ≡ false → Answers remaining view old new r
  pub numbers : has_ended old ≡ false → Numbers old new r
  pub ids : ids_of new ≡ ids_of old
  pub stays : has_ended old ≡ true → (r ≡ Ok None) × (new ≡ old)

-- what a stop answers, with this source, after this many lines
abbrev pub Explains : {R X : Type 0} → Source R → ℕ → Stop DratKind → Result (Option X) LratTextFault →
    Type 0
Explains source before stops.End r = r ≡ Ok None
Explains source before stops.Read (Ok x) = ⊥
Explains source before stops.Read (Err (faults.Read e)) = IsErrorOf source e
Explains source before stops.Read (Err (faults.Wrong at kind)) = ⊥
Explains source before stops.Read (Err faults.OutOfMemory) = ⊥
Explains source before (stops.Wrong kind) r = r ≡ Err (line_fault (next_line before) (line_kind kind))
Explains source before stops.OutOfMemory r = r ≡ Err faults.OutOfMemory
