-- What a reader of either form gave, said in one way.
--     Goes      after this many lines the proof continues so, or has ended so
use Rattle.std.proofs.Common.{◌≡◌, ℕ, Bool, true, false, List, [], Option, Some, None, Result, Ok, Err, refl, ap, arith}
use Rattle.std.proofs.lemmas.Bool.{false_from_ne_true}
pub use Rattle.sat_formula.specs.Readings.{Known}
use Rattle.sat_formula.specs.Readings.{Continues, Fails, by_byte, by_end}
use Rattle.lrat_text.specs.NextLine.{view}
use Rattle.lrat_text.specs.NextLine as texts
use Rattle.lrat_text.specs.Texts.{Ended, Faulty, Outcome, with_line}
use Rattle.lrat_text.specs.declared.fault.LineKind.{LineKind}
use Rattle.sat_formula.specs.declared.read_fault.LineNumber.{LineNumber}
use Rattle.sat_formula.specs.declared.read_fault.ReadFault.TheVariants as reads
use Rattle.lrat_text.specs.Faults.{LratTextFault}
use Rattle.lrat_text.specs.declared.line.LratLine.{LratLine}
use Rattle.lrat_binary.specs.NextLine as binaries
use Rattle.lrat_binary.specs.Lines.{binary_after}
use Rattle.lrat_binary.specs.Proofs.{Gives, IsCounted, bytes_left, form_now, has_ended, line_number, lines_after}
use Rattle.lrat_binary.specs.TakenLines.{IsExact}
use Rattle.lrat_binary.specs.declared.ids.Ids.{Ids}
use Rattle.lrat_binary.specs.declared.ids.LratForm.{LratForm}
use Rattle.lrat_binary.specs.declared.ids.LratForm.TheVariants as forms
use Rattle.lrat_binary.specs.declared.proof.LratReader.{LratReader}
use Rattle.lrat_binary.specs.declared.proof.LratReader.TheVariants.{Text, Binary}

abbrev pub Goes : LratForm → Known → Known → ℕ → Bool → (List ℕ → Outcome) → Type 0
Goes form a b before over rest = Continues a b over (lines_after form before) rest

module _ {R : Type 0} (remaining : R → Option (List ℕ)) where
  -- only a reader that has not ended gives something
  pub open_still : (old new : LratReader R) (r : Result (Option LratLine) LratTextFault) → (r ≡ Ok None → ⊥) → Gives remaining old new r → has_ended old ≡ false
  open_still (Text old) (Text new) r some gives = false_from_ne_true (texts.has_ended old) (λ e. some (gives.stays e).0)
  open_still (Binary old) (Binary new) r some gives = false_from_ne_true (binaries.has_ended old) (λ e. some (gives.stays e).0)
  open_still old new r some gives = absurd gives

  -- the form stays
  pub same_form : (old new : LratReader R) (r : Result (Option LratLine) LratTextFault) → Gives remaining old new r → form_now new ≡ form_now old
  same_form (Text old) (Text new) r gives = refl
  same_form (Binary old) (Binary new) r gives = ap (λ (ids : Ids). forms.Binary ids) gives.ids
  same_form old new r gives = absurd gives

  -- a line
  pub gave_line : (old new : LratReader R) (line : LratLine) → has_ended old ≡ false → Gives remaining old new (Ok (Some line)) →
      Goes (form_now old) (bytes_left remaining old) (bytes_left remaining new) (line_number old) (has_ended new)
      (λ more. with_line (line_number new) (view line) (lines_after (form_now old) (line_number new) more))
  gave_line (Text old) (Text new) line on gives = (gives.reads on).0
  gave_line (Binary old) (Binary new) line on gives = let a = gives.reads on in rw a.1 (rw gives.ids at a.0)
  gave_line old new line on gives = absurd gives

  -- the end
  pub gave_end : (old new : LratReader R) → has_ended old ≡ false → Gives remaining old new (Ok None) →
      Goes (form_now old) (bytes_left remaining old) (bytes_left remaining new) (line_number old) true (λ more. ([], Ended))
  gave_end (Text old) (Text new) on gives = (gives.reads on).0
  gave_end (Binary old) (Binary new) on gives = (gives.reads on).0
  gave_end old new on gives = absurd gives

  fails_so : (ids : Ids) (before : ℕ) (a b : Known) (n : ℕ) (kind : LineKind) → Fails a b (binary_after ids before) ([], Faulty n kind) →
      (over : Bool) × Goes (forms.Binary ids) a b before over (λ more. ([], Faulty n kind))
  fails_so ids before a b n kind (by_byte p) = (false, p)
  fails_so ids before a b n kind (by_end p) = (true, p)

  -- a fault of a line
  pub gave_fault : (old new : LratReader R) (at : LineNumber) (kind : LineKind) → has_ended old ≡ false → Gives remaining old new (Err (reads.Wrong at kind)) →
      (over : Bool) × Goes (form_now old) (bytes_left remaining old) (bytes_left remaining new) (line_number old) over (λ more. ([], Faulty at.0 kind))
  gave_fault (Text old) (Text new) at kind on gives =
      let a = gives.reads on in
      rw a.0 (a.1.0, a.1.1)
  gave_fault (Binary old) (Binary new) at kind on gives = fails_so old.ids old.number _ _ at.0 kind (gives.reads on).0
  gave_fault old new at kind on gives = absurd gives

  -- the bytes that were taken bound the number of a line
  pub still_counted : (old new : LratReader R) (line : LratLine) → Gives remaining old new (Ok (Some line)) → IsCounted old → IsCounted new
  still_counted (Text old) (Text new) line gives few =
      let more = gives.counts (open_still (Text old) (Text new) (Ok (Some line)) (λ e. absurd cc) gives) in omega arith
  still_counted (Text old) (Binary new) line gives few = tt
  still_counted (Binary old) (Text new) line gives few = absurd gives
  still_counted (Binary old) (Binary new) line gives few = tt

  pub line_exact : (old new : LratReader R) (line : LratLine) → Gives remaining old new (Ok (Some line)) → IsCounted old → IsExact (form_now old) (line_number new)
  line_exact (Text old) (Text new) line gives few =
      let more = gives.counts (open_still (Text old) (Text new) (Ok (Some line)) (λ e. absurd cc) gives) in omega arith
  line_exact (Text old) (Binary new) line gives few = absurd gives
  line_exact (Binary old) new line gives few = tt

  pub fault_exact : (old new : LratReader R) (at : LineNumber) (kind : LineKind) → Gives remaining old new (Err (reads.Wrong at kind)) → IsCounted old → IsExact (form_now old) at.0
  fault_exact (Text old) (Text new) at kind gives few =
      let on = open_still (Text old) (Text new) (Err (reads.Wrong at kind)) (λ e. absurd cc) gives in
      let more = gives.counts on in
      let number = (gives.reads on).0 in
      omega arith
  fault_exact (Text old) (Binary new) at kind gives few = absurd gives
  fault_exact (Binary old) new at kind gives few = tt
