-- What a draft does with a letter and with a number.
use Rattle.std.proofs.Common.{ℕ, [], ◌∷◌, Result, Ok, Err}
use Rattle.std.specs.Io.KnownBytes.{Consumes}
use Rattle.sat_formula.specs.Readings.{Known, Leads, by_byte}
use Rattle.sat_formula.specs.declared.source.Source.{Source}
use Rattle.sat_formula.proofs.Readings.{leads_on}
use Rattle.drat_text.specs.declared.fault.DratKind.{DratKind}
use Rattle.sat_formula.specs.declared.stop.Stop.{Stop}
use Rattle.sat_formula.specs.declared.stop.Stop.TheVariants as stops
use Rattle.lrat_text.specs.declared.row.Head.{Head}
use Rattle.lrat_binary.specs.declared.draft.Draft.{Draft}
use Rattle.lrat_binary.specs.declared.ids.Ids.{Ids}
use Rattle.lrat_binary.specs.Drafts.{BeginsLine, TakesNumber, slot_of}
use Rattle.lrat_binary.specs.Lines.{outcome_at}
use Rattle.lrat_binary.specs.Places.{After, Goes, Outside, Stops, Within, begun}
use Rattle.lrat_binary.specs.Reading.{ReadsLetter, ReadsLine, goes_on}
use Rattle.lrat_binary.specs.Taking.{Stopped}
use Rattle.lrat_binary.proofs.Takings.{Tells, byte_on, on_as, stopped_on}

module _ (ids : Ids) (before : ℕ) where
  -- the letter of a line
  pub letter_on : {R X : Type 0} {a b : Known} (c : Known) {f : Tells} (x : ℕ) (source : Source R) (d : Draft) (r : Result X (Stop DratKind)) → Leads a b f (outcome_at ids before Outside) →
      Consumes b c (x ∷ []) → BeginsLine d (begun x) r → ReadsLetter ids before d a c f source r
  letter_on c x source d (Ok y) l h t = byte_on ids before Outside x {d = Goes (Within (slot_of d))} l h t
  letter_on c x source d (Err (stops.Wrong kind)) l h t = by_byte (byte_on ids before Outside x {d = Stops kind} l h t)
  letter_on c x source d (Err stop) l h t = absurd t

  -- ---- a number that is taken

  pub code_faulty : {R : Type 0} {a b : Known} {f : Tells} (d : Draft) (n : After) (source : Source R) (stop : Stop DratKind) → Leads a b f (goes_on ids before n) → TakesNumber d n (Err stop) →
      Stopped ids before a b f source stop
  code_faulty d n source (stops.Wrong kind) s t = by_byte (on_as ids before {e = Stops kind} s t)
  code_faulty d n source stops.OutOfMemory s t = tt
  code_faulty d n source stop s t = absurd t

  -- ---- a line

  pub line_on : {R : Type 0} {a b : Known} (c : Known) {f g : Tells} (d : Draft) (source : Source R) (r : Result Head (Stop DratKind)) →
      Leads a b f g → ReadsLine ids before d b c g source r → ReadsLine ids before d a c f source r
  line_on c d source (Ok head) l w = leads_on l w
  line_on c d source (Err stop) l w = stopped_on c ids before source stop l w
