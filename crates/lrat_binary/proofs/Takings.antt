-- Bytes, one after the other.
use Rattle.std.proofs.Common.{◌≡◌, ℕ, List, [], ◌∷◌, Err, ap}
use Rattle.std.specs.Io.KnownBytes.{Consumes, Keeps, IsAtEnd}
use Rattle.sat_formula.specs.Outcome.{next_line}
use Rattle.sat_formula.specs.Readings.{Known, Leads, EndsAll}
use Rattle.sat_formula.specs.declared.source.Source.{Source}
use Rattle.sat_formula.proofs.Readings.{leads_as, kept_on, ends_as, end_here}
use Rattle.sat_formula.proofs.Readings as readings
use Rattle.lrat_text.specs.Texts.{Outcome, Ended, Faulty}
use Rattle.drat_text.specs.declared.fault.DratKind.{DratKind}
use Rattle.sat_formula.specs.declared.stop.Stop.{Stop}
use Rattle.sat_formula.specs.declared.stop.Stop.TheVariants as stops
use Rattle.drat_text.specs.Taking.{Takes}
use Rattle.drat_text.proofs.Takings.{stops_on}
use Rattle.lrat_binary.specs.declared.ids.Ids.{Ids}
use Rattle.lrat_binary.specs.Kinds.{line_kind}
use Rattle.lrat_binary.specs.Lines.{at_end, outcome_at}
use Rattle.lrat_binary.specs.Places.{Place, After, after}
use Rattle.lrat_binary.specs.Reading.{goes_on}
use Rattle.lrat_binary.specs.Taking.{Stopped}

abbrev pub Tells : Type 0
Tells = List ℕ → Outcome

pub stopped_on : {R : Type 0} {a b : Known} (c : Known) {f g : Tells} (ids : Ids) (before : ℕ) (source : Source R) (stop : Stop DratKind) →
    Leads a b f g → Stopped ids before b c g source stop → Stopped ids before a c f source stop
stopped_on c ids before source stop p q = stops_on (outcome_at ids before) ([], Ended) (λ kind. ([], Faulty (next_line before) (line_kind kind))) c source stop p q

-- ---- a byte

module _ (ids : Ids) (before : ℕ) where
  pub byte_on : {a b c : Known} {f : Tells} (p : Place) (x : ℕ) {d : After} → Leads a b f (outcome_at ids before p) → Consumes b c (x ∷ []) → after ids p x ≡ d →
      Leads a c f (goes_on ids before d)
  unfolding outcome_at
  byte_on p x l h e = readings.byte_on x l h (λ m. ap (λ (d : After). goes_on ids before d m) e)

  -- what comes next is known
  pub on_as : {a b : Known} {f : Tells} {d e : After} → Leads a b f (goes_on ids before d) → d ≡ e → Leads a b f (goes_on ids before e)
  on_as l e = leads_as l (λ m. ap (λ (d : After). goes_on ids before d m) e)

-- ---- no byte

module _ (ids : Ids) (before : ℕ) (p : Place) where
  end_at : {a b c : Known} {f : Tells} {o : Outcome} → Leads a b f (outcome_at ids before p) → Keeps b c × IsAtEnd c → at_end before p ≡ o → EndsAll a c f o
  unfolding outcome_at
  end_at l k e = ends_as (end_here l k.0 k.1) e

  -- the input ends where it may
  pub no_byte : {R : Type 0} {a b : Known} (c : Known) {f : Tells} (source : Source R) (stop : Stop DratKind) → at_end before p ≡ ([], Ended) →
      Leads a b f (outcome_at ids before p) → Takes b c source (Err stop) → Stopped ids before a c f source stop
  no_byte c source stops.End e l t = end_at l t e
  no_byte c source stops.Read e l t = (record { place = p; leads = kept_on l t.0 }, t.1)
  no_byte c source (stops.Wrong kind) e l t = absurd t
  no_byte c source stops.OutOfMemory e l t = tt
