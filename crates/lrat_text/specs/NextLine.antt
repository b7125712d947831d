-- What `next_line` answers.
--     view      a line as the rules know it
--     bytes_left, room_left, line_number, has_ended, work_left, IsReadError      what a caller knows of a reader
--     Counts      a line's number and the bytes that were taken
--     Gives      what a call gave, and the reader after it
use Rattle.std.specs.Prelude.{◌≡◌, ℕ, suc, ◌+◌, ◌<◌, ◌≤◌, Bool, true, false, List, [], Option, Some, None, Result, Ok, Err, map, if◌then◌else◌}
use Rattle.std.specs.declared.io.Error.{Error}
use Rattle.sat_formula.specs.declared.source.Source.{Source}
use Rattle.sat_formula.specs.Source.{IsErrorOf, IsStopped}
use Rattle.lrat_rules.specs.Lines.{Line, adds, deletes}
use Rattle.lrat_text.specs.declared.fault.LineKind.{LineKind}
use Rattle.lrat_text.specs.declared.fault.LineKind.TheVariants.{Unfinished}
use Rattle.sat_formula.specs.declared.read_fault.ReadFault.TheVariants as faults
use Rattle.lrat_text.specs.Faults.{LratTextFault, line_fault}
use Rattle.sat_formula.specs.declared.stop.Stop.{Stop}
use Rattle.sat_formula.specs.declared.stop.Stop.TheVariants as stops
use Rattle.lrat_text.specs.declared.line.LratLine.{LratLine}
use Rattle.lrat_text.specs.declared.line.LratLine.TheVariants as lines
use Rattle.lrat_text.specs.declared.reader.LineReader.{LineReader}
use Rattle.lrat_text.specs.declared.row.Head.{Head}
use Rattle.lrat_text.specs.Grammar.{hint_of}
use Rattle.lrat_text.specs.Holding.{unread_lines, room_in}
use Rattle.lrat_text.specs.Reading.{line_if}
use Rattle.lrat_text.specs.Taking.{Breaks, Follows}
use Rattle.lrat_text.specs.Texts.{Ended, Faulty, Outcome, line_then, outcome_after, with_line}

-- the line as the rules know it, with its lists in place of references to them
abbrev pub view : LratLine → Line
view (lines.Add id clause hints) = adds id clause.now (map hint_of hints.now)
view (lines.Delete ids) = deletes ids.now

-- the bytes that are still to come, if the reader beneath says them
abbrev pub bytes_left : {R : Type 0} → (R → Option (List ℕ)) → LineReader R → Option (List ℕ)
bytes_left remaining r = unread_lines remaining r.lines

-- no line comes any more
abbrev pub has_ended : {R : Type 0} → LineReader R → Bool
has_ended r = r.ended

-- the number of the last line that was read to its end, 0 before the first
abbrev pub line_number : {R : Type 0} → LineReader R → ℕ
line_number r = r.number

-- how many bytes it takes from here on at most
abbrev pub room_left : {R : Type 0} → LineReader R → ℕ
room_left r = room_in r.lines

-- a number that falls with each line that is given
abbrev pub work_left : {R : Type 0} → LineReader R → ℕ
work_left r = if has_ended r then 0 else suc (room_in r.lines)

-- the error of the read that failed, or where none did and the text is too long, one that says so
abbrev pub IsReadError : {R : Type 0} → LineReader R → Error → Type 0
IsReadError r e = IsErrorOf r.lines.source e

-- what is left to say after the lines that were read
abbrev pub rest_of : {R : Type 0} → LineReader R → List ℕ → Outcome
rest_of r more = outcome_after (line_number r) more

-- after the lines that old has read the text continues so, up to the position of new
abbrev pub Reads : {R : Type 0} → (R → Option (List ℕ)) → LineReader R → LineReader R → Bool →
    (List ℕ → Outcome) → Type 0
Reads remaining old new over rest =
    Follows (bytes_left remaining old) (bytes_left remaining new) (line_number old) over rest

-- the text ends in this fault of the line that was read last
abbrev pub ReadsFault : {R : Type 0} → (R → Option (List ℕ)) → LineReader R → LineReader R →
    LineKind → Type 0
ReadsFault remaining old new kind =
    (over : Bool) × Reads remaining old new over (λ more. ([], Faulty (line_number new) kind))

-- what a call answered that reads to a line which says something, seen so: the next line of the text, its end or its fault
abbrev pub Answers : {R X : Type 0} → (R → Option (List ℕ)) → (X → Line) → LineReader R →
    LineReader R → Result (Option X) LratTextFault → Type 0
Answers remaining seen old new (Ok (Some x)) =
    Reads remaining old new (has_ended new)
    (λ more. with_line (line_number new) (seen x) (rest_of new more))
    × (work_left new < work_left old)
Answers remaining seen old new (Ok None) = Reads remaining old new true (λ more. ([], Ended))
    × (has_ended new ≡ true)
Answers remaining seen old new (Err (faults.Read e)) =
    Breaks (bytes_left remaining old) (bytes_left remaining new) (line_number old) (line_number new)
    × IsReadError new e × (has_ended new ≡ true)
Answers remaining seen old new (Err (faults.Wrong at kind)) =
    (at.0 ≡ line_number new) × ReadsFault remaining old new kind × (has_ended new ≡ true)
Answers remaining seen old new (Err faults.OutOfMemory) = has_ended new ≡ true

-- the line's number rises by no more than bytes were taken, since each line takes one at least
abbrev pub CountsBytes : {R : Type 0} → LineReader R → LineReader R → Type 0
CountsBytes old new = line_number new + room_left new ≤ line_number old + room_left old

-- so it is for a line that is given, or has a fault
abbrev pub Counts : {R X : Type 0} → LineReader R → LineReader R →
    Result (Option X) LratTextFault → Type 0
Counts old new (Ok (Some x)) = CountsBytes old new
Counts old new (Ok None) = Unit {0}
Counts old new (Err (faults.Read e)) = Unit {0}
Counts old new (Err (faults.Wrong at kind)) = CountsBytes old new
Counts old new (Err faults.OutOfMemory) = Unit {0}

-- and for a line that says nothing, unless it is the last, which may have no byte
abbrev pub CountsLine : {R : Type 0} → LineReader R → LineReader R →
    Result (Option Head) (Stop LineKind) → Type 0
CountsLine old new (Ok (Some head)) = CountsBytes old new
CountsLine old new (Ok None) = has_ended new ≡ false → CountsBytes old new
CountsLine old new (Err stops.End) = CountsBytes old new
CountsLine old new (Err stops.Read) = Unit {0}
CountsLine old new (Err (stops.Wrong kind)) = CountsBytes old new
CountsLine old new (Err stops.OutOfMemory) = Unit {0}

-- the call gave the next line, the end or the fault of the text; after the end or a fault it gives none and stays as it is
pub record Gives {R : Type 0} (remaining : R → Option (List ℕ)) (old new : LineReader R)
    (r : Result (Option LratLine) LratTextFault) : Type 0 where
  pub reads : has_ended old ≡ false → Answers remaining view old new r
  pub counts : has_ended old ≡ false → Counts old new r
  pub stays : has_ended old ≡ true → (r ≡ Ok None) × (new ≡ old)

-- what reading one line answered
abbrev pub JudgesLine : {R : Type 0} → (R → Option (List ℕ)) → LineReader R → LineReader R →
    Result (Option Head) (Stop LineKind) → Type 0
JudgesLine remaining old new (Ok head) =
    Reads remaining old new (has_ended new)
    (λ more. line_then (line_number new) (Ok (line_if new.row head)) (rest_of new more))
JudgesLine remaining old new (Err stops.End) = ⊥
JudgesLine remaining old new (Err stops.Read) =
    Breaks (bytes_left remaining old) (bytes_left remaining new) (line_number old) (line_number new)
    × IsStopped new.lines.source
JudgesLine remaining old new (Err (stops.Wrong kind)) = ReadsFault remaining old new kind
JudgesLine remaining old new (Err stops.OutOfMemory) = Unit {0}

-- the fault of a stop, with this source, on this line; where the text ends there, the line is unfinished
abbrev pub Explains : {R : Type 0} → Source R → ℕ → Stop LineKind → LratTextFault → Type 0
Explains source line stops.End fault = fault ≡ line_fault line Unfinished
Explains source line stops.Read (faults.Read e) = IsErrorOf source e
Explains source line stops.Read (faults.Wrong at kind) = ⊥
Explains source line stops.Read faults.OutOfMemory = ⊥
Explains source line (stops.Wrong kind) fault = fault ≡ line_fault line kind
Explains source line stops.OutOfMemory fault = fault ≡ faults.OutOfMemory
