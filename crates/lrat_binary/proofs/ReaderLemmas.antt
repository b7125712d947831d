-- What a reader answers.
use Rattle.std.proofs.Common.{◌≡◌, ℕ, ◌<◌, true, false, List, Option, Some, Result, Ok, Err, refl, sym, arith}
use Rattle.sat_formula.specs.Outcome.{next_line}
use Rattle.sat_formula.specs.Readings.{Leads}
use Rattle.sat_formula.specs.Source.{IsStopped}
use Rattle.sat_formula.specs.declared.source.Source.{Source}
use Rattle.lrat_rules.specs.Lines.{Line}
use Rattle.drat_text.specs.Taking.{source_of}
use Rattle.drat_text.specs.declared.fault.DratKind.{DratKind}
use Rattle.sat_formula.specs.declared.stop.Stop.{Stop}
use Rattle.sat_formula.specs.declared.stop.Stop.TheVariants as stops
use Rattle.lrat_text.specs.Texts.{Outcome}
use Rattle.sat_formula.specs.declared.read_fault.ReadFault.TheVariants as faults
use Rattle.lrat_text.specs.Faults.{LratTextFault}
use Rattle.lrat_binary.specs.declared.ids.Ids.{Ids}
use Rattle.lrat_binary.specs.declared.reader.BinaryReader.{BinaryReader}
use Rattle.lrat_binary.specs.NextLine.{Answers, Explains, Numbers, bytes_left, has_ended, ids_of, line_number, rest_of, room_left}
use Rattle.lrat_binary.specs.Reading.{line_then}
use Rattle.lrat_binary.specs.Taking.{Stopped}

-- a read that failed has stopped the source
pub stopped_source : {R : Type 0} (ids : Ids) (before : ℕ) (a b : Option (List ℕ)) (f : List ℕ → Outcome) (source : Source R) (stop : Stop DratKind) → Stopped ids before a b f source stop →
    stop ≡ stops.Read → IsStopped source
stopped_source ids before a b f source stops.Read s e = s.1
stopped_source ids before a b f source stop s e = absurd cc

-- a line was read
pub line_answers : {R X : Type 0} (remaining : R → Option (List ℕ)) (seen : X → Line) (old new : BinaryReader R) (x : X) →
    Leads (bytes_left remaining old) (bytes_left remaining new) (rest_of old) (line_then (ids_of old) (line_number old) (seen x)) →
    line_number new ≡ next_line (line_number old) → ids_of new ≡ ids_of old → has_ended new ≡ false → has_ended old ≡ false → room_left new < room_left old →
    Answers remaining seen old new (Ok (Some x))
line_answers remaining seen old new x leads number ids ended on less = rw (number, ids, ended, on) (leads, refl, omega (arith, less))

-- nothing is read after a stop
pub stop_answers : {R X : Type 0} (remaining : R → Option (List ℕ)) (seen : X → Line) (old mid new : BinaryReader R) (stop : Stop DratKind) (r : Result (Option X) LratTextFault) →
    Stopped (ids_of old) (line_number old) (bytes_left remaining old) (bytes_left remaining mid) (rest_of old) (source_of mid.bytes) stop →
    Explains (source_of mid.bytes) (line_number old) stop r → new.bytes ≡ mid.bytes → line_number mid ≡ line_number old → Numbers mid new r → has_ended new ≡ true →
    Answers remaining seen old new r
stop_answers remaining seen old mid new stops.End r s told same at numbers ended = rw (told, same) (s, ended)
stop_answers remaining seen old mid new stops.Read (Err (faults.Read e)) s told same at numbers ended = rw same (s.0, told, ended)
stop_answers remaining seen old mid new stops.Read r s told same at numbers ended = absurd told
stop_answers remaining seen old mid new (stops.Wrong kind) r s told same at numbers ended =
    let is : line_number new ≡ next_line (line_number old) = rw (← at) (rw told at numbers) in
    rw (told, same) (s, sym is, ended)
stop_answers remaining seen old mid new stops.OutOfMemory r s told same at numbers ended = rw told ended
