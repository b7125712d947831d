-- What bytes do in a text, and numbers in a step.
use Rattle.std.proofs.Common.{◌≡◌, ℕ, List, [], ◌∷◌, Bool, true, false, Some, None, Result, Ok, Err, refl, ap, ◌∙◌, sym}
use Rattle.std.proofs.lemmas.Bool.{ne_eqb}
use Rattle.sat_formula.specs.declared.source.Source.{Source}
use Rattle.drat_text.specs.Bytes.{is_space}
use Rattle.drat_text.specs.declared.bytes.Format.{Format}
use Rattle.drat_text.specs.declared.bytes.Format.TheVariants.{Text, Binary}
use Rattle.drat_text.specs.declared.fault.DratKind.TheVariants.{Malformed, Unfinished}
use Rattle.drat_text.specs.declared.fault.DratKind.{DratKind}
use Rattle.sat_formula.specs.declared.stop.Stop.{Stop}
use Rattle.sat_formula.specs.declared.stop.Stop.TheVariants as stops
use Rattle.drat_text.specs.declared.step.StepEnd.{StepEnd}
use Rattle.drat_text.specs.declared.text.TextNumber.{TextNumber}
use Rattle.drat_text.specs.Places.{Rules, Outside, Within, InNumber, Sign, After, Goes, Gives, Stops, after, first_digit, last_said}
use Rattle.drat_text.specs.Proofs.{outcome_at}
use Rattle.drat_text.specs.Reading.{goes_on, GivesStep, IsFirst, Says, ReadsNumber, ReadsStep, TakesNumber}
use Rattle.drat_text.specs.Steps.{Outcome, Faulty}
use Rattle.drat_text.specs.Taking.{Leads, Fails, by_byte, by_end, Stopped}
use Rattle.drat_text.proofs.Takings.{Known, leads_on, ends_on, ends_as, stopped_on, given_on, front_byte, on_as}

-- ---- between steps

module _ {S T : Type 0} (r : Rules S T) where
  -- a letter
  pub outside_letter : (x : ℕ) (slot : S) → IsFirst r x → r.letter Text x ≡ Some slot → (m : List ℕ) → outcome_at r Text Outside (x ∷ m) ≡ outcome_at r Text (Within slot) m
  outside_letter x slot first e = front_byte r Text Outside x {d = Goes (Within slot)} (rw (first.comment, first.space, e) refl)

  -- no letter
  pub outside_bare : (x : ℕ) (slot : S) → IsFirst r x → r.letter Text x ≡ None → r.bare ≡ Some slot → (m : List ℕ) →
      outcome_at r Text Outside (x ∷ m) ≡ outcome_at r Text (Within slot) (x ∷ m)
  outside_bare x slot first n e m =
      front_byte r Text Outside x {d = after r Text (Within slot) x} (rw (first.comment, first.space, n, e) refl) m ∙ sym (front_byte r Text (Within slot) x refl m)

  pub outside_none : (x : ℕ) → IsFirst r x → r.letter Text x ≡ None → r.bare ≡ None → (m : List ℕ) → outcome_at r Text Outside (x ∷ m) ≡ ([], Faulty Malformed)
  outside_none x first n e = front_byte r Text Outside x {d = Stops Malformed} (rw (first.comment, first.space, n, e) refl)

-- ---- the bytes of a number

module _ {S T : Type 0} (r : Rules S T) (slot : S) where
  pub sign_first : (x : ℕ) → x ≡ 45 → (m : List ℕ) → outcome_at r Text (Within slot) (x ∷ m) ≡ outcome_at r Text (InNumber slot Sign) m
  sign_first x e = front_byte r Text (Within slot) x {d = Goes (InNumber slot Sign)} (rw e refl)

  pub digit_first : (x : ℕ) → is_space x ≡ false → (x ≡ 45 → ⊥) → (m : List ℕ) → outcome_at r Text (Within slot) (x ∷ m) ≡ goes_on r Text (first_digit slot false x) m
  digit_first x s n = front_byte r Text (Within slot) x {d = first_digit slot false x} (rw (s, ne_eqb x 45 n) refl)

module _ {S T : Type 0} (r : Rules S T) where
  pub says_on : {a b : Known} (c : Known) {f g : List ℕ → Outcome T} (d : After S T) (last : Bool) → Leads a b f g → Says r d last b c g → Says r d last a c f
  says_on c d false l w = leads_on l w
  says_on c d true l w = ends_on l w

  pub number_on : {R : Type 0} {a b : Known} (c : Known) {f g : List ℕ → Outcome T} (source : Source R) (slot : S) (n : Result TextNumber (Stop DratKind)) →
      Leads a b f g → ReadsNumber r slot b c g source n → ReadsNumber r slot a c f source n
  number_on c source slot (Ok n) l w = says_on c (r.said slot n.negative n.value) n.last l w
  number_on c source slot (Err stop) l w = stopped_on r Text c source stop l w

  pub step_on : {R F : Type 0} {a b : Known} (c : Known) {f g : List ℕ → Outcome T} (format : Format) (step : F → T) (source : Source R) (e : Result (StepEnd F) (Stop DratKind)) →
      Leads a b f g → ReadsStep r format step b c g source e → ReadsStep r format step a c f source e
  step_on c format step source (Ok e) l w = given_on r format c (step e.found) e.last l w
  step_on c format step source (Err stop) l w = stopped_on r format c source stop l w

-- ---- a number that is taken

module _ {S T F : Type 0} (r : Rules S T) (step : F → T) (slot : S) (n : After S T) where
  -- a step continues
  pub going : {a b : Known} {f : List ℕ → Outcome T} (last : Bool) → last ≡ false → Says r n last a b f → TakesNumber step slot n (Ok None) → Leads a b f (outcome_at r Text (Within slot))
  going last e s t = on_as r Text {d = n} {e = Goes (Within slot)} (rw e at s) t

  -- and the input has ended
  pub unfinished : {a b : Known} {f : List ℕ → Outcome T} (last : Bool) → last ≡ true → Says r n last a b f → TakesNumber step slot n (Ok None) → Fails a b f ([], Faulty Unfinished)
  unfinished last e s t = by_end (ends_as (rw e at s) (ap last_said t))

  -- a step ends
  pub ended : (a b : Known) (f : List ℕ → Outcome T) (last : Bool) (found : F) → Says r n last a b f → TakesNumber step slot n (Ok (Some found)) → GivesStep r Text a b f (step found) last
  ended a b f false found s t = on_as r Text {e = Gives (step found)} s t
  ended a b f true found s t = ends_as s (ap last_said t)

  -- a fault
  pub faulty : {R : Type 0} (a b : Known) (f : List ℕ → Outcome T) (last : Bool) (source : Source R) (stop : Stop DratKind) → Says r n last a b f → TakesNumber step slot n (Err stop) →
      Stopped r Text a b f source stop
  faulty a b f false source (stops.Wrong kind) s t = by_byte (on_as r Text {e = Stops kind} s t)
  faulty a b f true source (stops.Wrong kind) s t = by_end (ends_as s (ap last_said t))
  faulty a b f last source stops.OutOfMemory s t = tt
  faulty a b f last source stop s t = absurd t

  -- ---- a binary number that is taken

  pub code_faulty : {R : Type 0} {a b : Known} {f : List ℕ → Outcome T} (source : Source R) (stop : Stop DratKind) → Leads a b f (goes_on r Binary n) → TakesNumber step slot n (Err stop) →
      Stopped r Binary a b f source stop
  code_faulty source (stops.Wrong kind) s t = by_byte (on_as r Binary {e = Stops kind} s t)
  code_faulty source stops.OutOfMemory s t = tt
  code_faulty source stop s t = absurd t
