-- A step of a reader, from the format and the step that were read.
use Rattle.std.proofs.Common.{◌≡◌, ℕ, ◌<◌, ◌≤◌, List, Option, Some, IfOk, Result, Ok, Err, arith}
use Rattle.drat_text.specs.declared.bytes.Bytes.{Bytes}
use Rattle.drat_text.specs.declared.bytes.Format.{Format}
use Rattle.drat_text.specs.declared.fault.DratKind.{DratKind}
use Rattle.sat_formula.specs.declared.stop.Stop.{Stop}
use Rattle.sat_formula.specs.declared.stop.Stop.TheVariants as stops
use Rattle.drat_text.specs.declared.reader.StepReader.{StepReader}
use Rattle.drat_text.specs.declared.step.StepEnd.{StepEnd}
use Rattle.drat_text.specs.Places.{Rules}
use Rattle.drat_text.specs.Proofs.{outcome_in}
use Rattle.drat_text.specs.Reading.{ReadsStep}
use Rattle.drat_text.specs.Taking.{room_in, source_of, unread_bytes}
use Rattle.drat_text.specs.NextStep.{bytes_left, known_format, TellsFormat, ToldBy, ReadsOn, SeesFormat}
use Rattle.drat_text.proofs.NumberLemmas.{step_on}
use Rattle.drat_text.proofs.Takings.{kept_on, leads_nil}

falls_from : {X E : Type 0} (r : Result X E) (a b c : ℕ) → IfOk r (λ _. a < b) → b ≤ c → IfOk r (λ _. a < c)
falls_from (Ok x) a b c lt le = omega arith
falls_from (Err e) a b c lt le = tt

module _ {G R S T : Type 0} (rules : Rules S T) (remaining : R → Option (List ℕ)) where
  told : {X : Type 0} (old new : StepReader G R) (r : Result X (Stop DratKind)) → TellsFormat rules remaining old new → ToldBy rules remaining old new r
  told old new (Err stops.Read) t = tt
  told old new (Err stops.OutOfMemory) t = tt
  told old new r t = t

  -- the format is known, and a step was read in it
  pub read_on : {F : Type 0} (seen : F → T) (old mid : StepReader G R) (bytes : Bytes R) (draft : G) (format now : Format) (r : Result (StepEnd F) (Stop DratKind)) → format ≡ now →
      SeesFormat rules remaining old mid (Ok format) → ReadsStep rules now seen (bytes_left remaining mid) (unread_bytes remaining bytes) (outcome_in rules now) (source_of bytes) r →
      IfOk r (λ _. room_in bytes < room_in mid.bytes) → ReadsOn rules remaining seen old (record mid { bytes = bytes; draft = draft }) r
  read_on seen old mid bytes draft format now r is sees step nearer =
      let known : known_format mid ≡ Some now = rw is at sees.now in
      record {
        step = rw known (step_on rules (unread_bytes remaining bytes) now seen (source_of bytes) r
            (kept_on (leads_nil (bytes_left remaining old) (outcome_in rules now)) sees.looks) step);
        nearer = falls_from r (room_in bytes) (room_in mid.bytes) (room_in old.bytes) nearer sees.room;
        stays = sees.stays;
        told = told old (record mid { bytes = bytes; draft = draft }) r sees.format;
        steps = sees.steps;
        ended = sees.ended;
      }
