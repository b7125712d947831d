-- Bytes, one after the other.
use Rattle.std.proofs.Common.{◌≡◌, ℕ, ◌+◌, ◌≤◌, ◌<◌, List, [], ◌∷◌, ◌++◌, None, Some, Err, Bool, true, false, refl, sym, ap, ◌∙◌, length, take, drop, get_or, drop-cons, add-one, arith, ◌⊎◌, inl, inr}
use Rattle.std.specs.Prelude.{nat_lt, if◌then◌else◌}
use Rattle.std.proofs.lemmas.Bool.{cases_Bool, ltb-false}
use Rattle.std.proofs.lemmas.List.{append_cancel_right, drop_all, take-append-drop}
use Rattle.std.specs.Io.KnownBytes.{Consumes, Keeps, IsAtEnd, prepend_known}
use Rattle.sat_formula.specs.declared.source.NoByte.{NoByte}
use Rattle.sat_formula.specs.declared.source.NoByte.TheVariants as reasons
use Rattle.sat_formula.specs.declared.source.Source.{Source}
use Rattle.sat_formula.specs.Source.{IsStopped, TakesNone}
use Rattle.drat_text.specs.declared.bytes.Format.{Format}
use Rattle.drat_text.specs.declared.fault.DratKind.{DratKind}
use Rattle.drat_text.specs.declared.fault.DratKind.TheVariants.{Unfinished}
use Rattle.sat_formula.specs.declared.stop.Stop.{Stop}
use Rattle.sat_formula.specs.declared.stop.Stop.TheVariants as stops
use Rattle.sat_formula.specs.Stop.{stop_of}
use Rattle.drat_text.specs.Places.{Rules, Place, After, Goes, Stops, after, at_end}
use Rattle.drat_text.specs.Proofs.{outcome_at}
use Rattle.drat_text.specs.Reading.{goes_on, GivesStep}
use Rattle.drat_text.specs.Steps.{Outcome, Ended, Faulty}
use Rattle.drat_text.specs.Taking.{Takes, TakesWithin, Leads, EndsAll, Fails, by_byte, by_end, StopsBy, Stopped}
use Rattle.sat_formula.proofs.Readings as readings
pub use Rattle.sat_formula.specs.Readings.{Known}
pub use Rattle.sat_formula.proofs.Exits.{error_is}
pub use Rattle.sat_formula.proofs.Readings.{leads_nil, leads_on, leads_as, kept_on, ends_on, ends_as, end_here, fails_on}

-- ---- a source, with nothing in front of it

keeps_front : (a b : Known) → Keeps a b → Keeps (prepend_known [] a) (prepend_known [] b)
keeps_front None b k = tt
keeps_front (Some x) None k = absurd k
keeps_front (Some x) (Some y) k = k

end_front : (b : Known) → IsAtEnd b → IsAtEnd (prepend_known [] b)
end_front None e = tt
end_front (Some y) e = e

pub source_none : {R : Type 0} (a b : Known) (source : Source R) (front : List ℕ) (reason : NoByte) → front ≡ [] → TakesNone a b reason → (reason ≡ reasons.Read → IsStopped source) →
    Takes (prepend_known front a) (prepend_known front b) source (Err (stop_of reason))
source_none a b source front reasons.End e t stopped = rw e (keeps_front a b t.kept, end_front b (t.at_end refl))
source_none a b source front reasons.Read e t stopped = rw e (keeps_front a b t.kept, stopped refl)
source_none a b source front reasons.OutOfMemory e t stopped = tt

-- ---- bytes read ahead

front_stays : (a b : Known) (front taken : List ℕ) → (front ≡ []) ⊎ (taken ≡ []) → Consumes a b taken → Consumes (prepend_known front a) (prepend_known front b) taken
front_stays None b front taken e h = tt
front_stays (Some x) None front taken e h = absurd h
front_stays (Some x) (Some y) front taken (inl e) h = rw e h
front_stays (Some x) (Some y) front taken (inr e) h = rw e (ap (λ (l : List ℕ). front ++ l) (rw e at h))

-- none are taken where others come in front of them
pub ahead_taken : (passed : ℕ) (front ahead : List ℕ) (a b : Known) (count : ℕ) → count ≤ length (if nat_lt passed (length front) then [] else ahead) → Consumes a b (take count ahead) →
    Consumes (prepend_known (drop passed front) a) (prepend_known (drop passed front) b) (take count (if nat_lt passed (length front) then [] else ahead))
ahead_taken passed front ahead a b count le h = elim (cases_Bool (nat_lt passed (length front))) [
  | inl some ↦
      let none : count ≡ 0 = omega (arith, rw some at le) in
      rw (some, none) (front_stays a b (drop passed front) [] (inr refl) (rw none at h))
  | inr all ↦ rw all (front_stays a b (drop passed front) (take count ahead) (inl (drop_all passed front (ltb-false passed (length front) all))) h)
]

pub byte_ahead : (bytes : List ℕ) (place : ℕ) → place < length bytes → Consumes (Some (drop place bytes)) (Some (drop (place + 1) bytes)) (get_or bytes place 0 ∷ [])
byte_ahead bytes place lt = rw (drop-cons bytes place 0 lt, add-one) refl

-- the first this many of the bytes ahead are taken, of which something is said
pub ahead_leads : {O : Type 0} {a b : Known} {f g : List ℕ → O} (ahead front : List ℕ) (count : ℕ) → ahead ≡ front → Leads (Some ahead) (Some (drop count ahead)) f g →
    Consumes a b (take count front) → Leads a b f g
ahead_leads ahead front count e p taken =
    let same : p.taken ≡ take count ahead = append_cancel_right p.taken (take count ahead) (drop count ahead) (sym p.consumed ∙ sym (take-append-drop count ahead)) in
    record { taken = p.taken; consumed = rw (same, e) taken; same = p.same }

-- ---- a stop

pub stops_on : {R P O : Type 0} (at : P → List ℕ → O) (ended : O) (faulty : DratKind → O) {a b : Known} (c : Known) {f g : List ℕ → O} (source : Source R) (stop : Stop DratKind) →
    Leads a b f g → StopsBy at ended faulty b c g source stop → StopsBy at ended faulty a c f source stop
stops_on at ended faulty c source stops.End p q = ends_on p q
stops_on at ended faulty c source stops.Read p q = (record { place = q.0.place; leads = leads_on p q.0.leads }, q.1)
stops_on at ended faulty c source (stops.Wrong kind) p q = fails_on p q
stops_on at ended faulty c source stops.OutOfMemory p q = tt

-- ---- by the rules of a proof

module _ {S T : Type 0} (r : Rules S T) (format : Format) where
  pub stopped_on : {R : Type 0} {a b : Known} (c : Known) {f g : List ℕ → Outcome T} (source : Source R) (stop : Stop DratKind) →
      Leads a b f g → Stopped r format b c g source stop → Stopped r format a c f source stop
  stopped_on c source stop p q = stops_on (outcome_at r format) ([], Ended) (λ kind. ([], Faulty kind)) c source stop p q

  pub given_on : {a b : Known} (c : Known) {f g : List ℕ → Outcome T} (step : T) (last : Bool) → Leads a b f g → GivesStep r format b c g step last → GivesStep r format a c f step last
  given_on c step false p q = leads_on p q
  given_on c step true p q = ends_on p q

  -- ---- a byte

  -- what a byte does is what the outcome continues with
  pub front_byte : (p : Place S) (x : ℕ) {d : After S T} → after r format p x ≡ d → (m : List ℕ) → outcome_at r format p (x ∷ m) ≡ goes_on r format d m
  unfolding outcome_at
  front_byte p x e m = ap (λ (d : After S T). goes_on r format d m) e

  pub byte_on : {a b c : Known} {f : List ℕ → Outcome T} (p : Place S) (x : ℕ) {d : After S T} → Leads a b f (outcome_at r format p) → Consumes b c (x ∷ []) → after r format p x ≡ d
      → Leads a c f (goes_on r format d)
  byte_on p x l h e = readings.byte_on x l h (front_byte p x e)

  pub byte_before : {a b c : Known} {f : List ℕ → Outcome T} (p : Place S) (x : ℕ) → Leads a b f (outcome_at r format p) → Consumes b c (x ∷ []) →
      Leads a c f (λ m. outcome_at r format p (x ∷ m))
  byte_before p x l h = leads_as (byte_on p x l h refl) (λ m. sym (front_byte p x refl m))

  pub byte_goes : {a b c : Known} {f : List ℕ → Outcome T} (p : Place S) {q : Place S} (x : ℕ) → Leads a b f (outcome_at r format p) → Consumes b c (x ∷ []) → after r format p x ≡ Goes q →
      Leads a c f (outcome_at r format q)
  byte_goes p {q} x l h e = byte_on p x {d = Goes q} l h e

  pub byte_stops : {a b c : Known} {f : List ℕ → Outcome T} (p : Place S) {kind : DratKind} (x : ℕ) → Leads a b f (outcome_at r format p) → Consumes b c (x ∷ []) → after r format p x ≡ Stops kind →
      Fails a c f ([], Faulty kind)
  byte_stops p {kind} x l h e = by_byte (byte_on p x {d = Stops kind} l h e)

  -- what comes next is known
  pub on_as : {a b : Known} {f : List ℕ → Outcome T} {d e : After S T} → Leads a b f (goes_on r format d) → d ≡ e → Leads a b f (goes_on r format e)
  on_as l e = leads_as l (λ m. ap (λ (d : After S T). goes_on r format d m) e)

  -- ---- no byte

  pub end_at : {a b c : Known} {f : List ℕ → Outcome T} (p : Place S) {o : Outcome T} → Leads a b f (outcome_at r format p) → Keeps b c × IsAtEnd c → at_end r p ≡ o → EndsAll a c f o
  unfolding outcome_at
  end_at p l k e = ends_as (end_here l k.0 k.1) e

  -- the input does not end here, or may end here
  pub no_byte : {R : Type 0} {a b : Known} (c : Known) {f : List ℕ → Outcome T} (p : Place S) (source : Source R) (stop : Stop DratKind) → (stop ≡ stops.End → at_end r p ≡ ([], Ended)) →
      Leads a b f (outcome_at r format p) → Takes b c source (Err stop) → Stopped r format a c f source stop
  no_byte c p source stops.End e l t = end_at p l t (e refl)
  no_byte c p source stops.Read e l t = (record { place = p; leads = kept_on l t.0 }, t.1)
  no_byte c p source (stops.Wrong kind) e l t = absurd t
  no_byte c p source stops.OutOfMemory e l t = tt

  -- the input ends within a step
  pub cut_short : {R : Type 0} {a b : Known} (c : Known) {f : List ℕ → Outcome T} (p : Place S) (source : Source R) (stop : Stop DratKind) → at_end r p ≡ ([], Faulty Unfinished) →
      Leads a b f (outcome_at r format p) → TakesWithin b c source (Err stop) → Stopped r format a c f source stop
  cut_short c p source stops.End e l t = absurd t
  cut_short c p source stops.Read e l t = (record { place = p; leads = kept_on l t.0 }, t.1)
  cut_short c p source (stops.Wrong kind) e l t = by_end (end_at p l (t.0, t.1) (rw t.2 e))
  cut_short c p source stops.OutOfMemory e l t = tt
