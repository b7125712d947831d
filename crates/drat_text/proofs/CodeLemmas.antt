-- The bytes of a binary number.
use Rattle.std.proofs.Common.{◌≡◌, ℕ, ◌+◌, ◌-◌, ◌*◌, ◌^◌, ◌≤◌, ◌<◌, List, [], ◌∷◌, Result, Ok, Err, refl, sym, ap, ◌∙◌, arith}
use Rattle.std.specs.Prelude.{◌%◌}
use Rattle.std.proofs.lemmas.Bool.{eq-eqb, le-ltb, lt-ltb, ne_eqb}
use Rattle.std.specs.Io.KnownBytes.{Consumes}
use Rattle.sat_formula.specs.declared.source.Source.{Source}
use Rattle.drat_text.specs.declared.bytes.Format.TheVariants.{Binary}
use Rattle.drat_text.specs.declared.fault.DratKind.{DratKind}
use Rattle.sat_formula.specs.declared.stop.Stop.{Stop}
use Rattle.sat_formula.specs.declared.stop.Stop.TheVariants as stops
use Rattle.drat_text.specs.Codes.{Code, Partial, TooLong, Whole, code_after, code_at}
use Rattle.drat_text.specs.Places.{Rules, IsLastWeight, fifth_last, ninth_last, Within, InNumber, Groups, code_does}
use Rattle.drat_text.specs.Proofs.{outcome_at}
use Rattle.drat_text.specs.Reading.{FailsCode, ReadsCode, TakesCode, cut_off, goes_on, too_long}
use Rattle.drat_text.specs.Steps.{Outcome, Faulty}
use Rattle.drat_text.specs.Taking.{Fails, Leads, TakesWithin, by_byte, by_end}
use Rattle.sat_formula.proofs.Readings.{ends_by, leads_by}
use Rattle.drat_text.proofs.Takings.{Known, end_here, kept_on, leads_as, leads_on}

-- the weights of a number's bytes: the last one's, and before each the one that is 128 times smaller
pub data IsWeight (last : ℕ) : ℕ → Type 0 where
  is_last : IsWeight last last
  before : (w : ℕ) → IsWeight last (w * 128) → IsWeight last w

pub first_weight : (last : ℕ) → IsLastWeight last → IsWeight last 1
first_weight _ fifth_last = before 1 (before 128 (before 16384 (before 2097152 is_last)))
first_weight _ ninth_last =
    before 1 (before 128 (before 16384 (before 2097152 (before 268435456 (before 34359738368 (before 4398046511104 (before 562949953421312 is_last)))))))

pub weight_below : (last w : ℕ) → IsWeight last w → w ≤ last
weight_below last _ is_last = omega arith
weight_below last w (before _ p) = omega (arith, weight_below last (w * 128) p)

pub weight_small : (last w : ℕ) → IsLastWeight last → IsWeight last w → w ≤ 2 ^ 56
weight_small last w fifth_last p = omega (arith, weight_below last w p)
weight_small last w ninth_last p = omega (arith, weight_below last w p)

pub next_weight : (last w : ℕ) → IsWeight last w → (w ≡ last → ⊥) → IsWeight last (w * 128)
next_weight last _ is_last n = absurd (n refl)
next_weight last w (before _ p) n = p

-- a group of the weight w
pub value_small : (v w x : ℕ) → v < w → v + (x % 128) * w < w * 128
value_small v w x lt = let m : x % 128 ≤ 127 = omega arith in grind arith

-- the group of a byte that isn't the last one
pub group_before : (v w x : ℕ) → 128 ≤ x → x < 256 → v + w * (x - 128) ≡ v + (x % 128) * w
group_before v w x le lt = let e : x % 128 ≡ x - 128 = omega arith in rw e (grind arith)

-- the first byte, and the second, may have others after them
pub not_first : (last : ℕ) → IsLastWeight last → 1 ≡ last → ⊥
not_first _ fifth_last e = omega (arith, e)
not_first _ ninth_last e = omega (arith, e)

pub not_second : (last : ℕ) → IsLastWeight last → 128 ≡ last → ⊥
not_second _ fifth_last e = omega (arith, e)
not_second _ ninth_last e = omega (arith, e)

-- ---- one byte

module _ (last v w x : ℕ) where
  pub code_whole : x < 128 → code_after last v w x ≡ Whole (v + (x % 128) * w)
  code_whole lt = rw (lt-ltb x 128 lt) refl

  pub code_long : 128 ≤ x → w ≡ last → code_after last v w x ≡ TooLong
  code_long le e = rw (le-ltb x 128 le, eq-eqb w last e) refl

  pub code_partial : 128 ≤ x → (w ≡ last → ⊥) → code_after last v w x ≡ Partial (v + (x % 128) * w) (w * 128)
  code_partial le n = rw (le-ltb x 128 le, ne_eqb w last n) refl

-- what was read of a number, and the bytes to come
unfoldable pub code_then : ℕ → Code → List ℕ → Code × List ℕ
code_then last code more = elim code [
  | Partial value next ↦ code_at last value next more
  | Whole n ↦ (Whole n, more)
  | TooLong ↦ (TooLong, more)
]

pub code_byte : (last v w x : ℕ) (m : List ℕ) → code_at last v w (x ∷ m) ≡ code_then last (code_after last v w x) m
unfolding code_at code_then
code_byte last v w x m = refl

module _ {a b c : Known} (last v w x : ℕ) (on : Leads a b (code_at last 0 1) (code_at last v w)) (taken : Consumes b c (x ∷ [])) where
  by_code : (code : Code) → code_after last v w x ≡ code → Leads a c (code_at last 0 1) (code_then last code)
  by_code code e = leads_on on (record { taken = x ∷ []; consumed = taken; same = λ m. code_byte last v w x m ∙ ap (λ (d : Code). code_then last d m) e })

  pub code_ends : x < 128 → Leads a c (code_at last 0 1) (λ m. (Whole (v + (x % 128) * w), m))
  unfolding code_then
  code_ends lt = by_code (Whole (v + (x % 128) * w)) (code_whole last v w x lt)

  -- as a number of this value
  pub code_is : (n : ℕ) → x < 128 → n ≡ v + (x % 128) * w → Leads a c (code_at last 0 1) (λ m. (Whole n, m))
  code_is n lt e = leads_as (code_ends lt) (λ m. ap (λ k. (Whole k, m)) (sym e))

  pub code_too_long : 128 ≤ x → w ≡ last → Leads a c (code_at last 0 1) (λ m. (TooLong, m))
  unfolding code_then
  code_too_long le e = by_code TooLong (code_long last v w x le e)

  pub code_more : 128 ≤ x → (w ≡ last → ⊥) → Leads a c (code_at last 0 1) (code_at last (v + (x % 128) * w) (w * 128))
  unfolding code_then
  code_more le n = by_code (Partial (v + (x % 128) * w) (w * 128)) (code_partial last v w x le n)

-- no byte
pub code_cut : {R : Type 0} {a b : Known} (c : Known) (last v w : ℕ) (source : Source R) (stop : Stop DratKind) → Leads a b (code_at last 0 1) (code_at last v w) →
    TakesWithin b c source (Err stop) → TakesCode last a c source (Err stop)
unfolding code_at
code_cut c last v w source stops.End on t = absurd t
code_cut c last v w source stops.Read on t = (record { value = v; weight = w; leads = kept_on on t.0 }, t.1)
code_cut c last v w source (stops.Wrong kind) on t = rw t.2 (cut_off v w (end_here on t.0 t.1))
code_cut c last v w source stops.OutOfMemory on t = tt

-- ---- what a number does

-- what is said of a part of a number and of the bytes to come is said of what these make of it
module _ {O : Type 0} (last : ℕ) (says : Code → List ℕ → O) (step : (v w b : ℕ) (bs : List ℕ) → says (Partial v w) (b ∷ bs) ≡ says (code_after last v w b) bs) where
  code_says : (code : Code) (bytes : List ℕ) → says code bytes ≡ says (code_then last code bytes).0 (code_then last code bytes).1
  unfolding code_at code_then
  code_says (Partial v w) [] = refl
  code_says (Partial v w) (b ∷ bs) = step v w b bs ∙ code_says (code_after last v w b) bs
  code_says (Whole n) bytes = refl
  code_says TooLong bytes = refl

  pub partial_says : (v w : ℕ) (bytes : List ℕ) → says (Partial v w) bytes ≡ says (code_at last v w bytes).0 (code_at last v w bytes).1
  unfolding code_then
  partial_says v w bytes = code_says (Partial v w) bytes

-- what numbers do, by what they say
module _ {S T : Type 0} (r : Rules S T) (slot : S) where
  abbrev says : Code → List ℕ → Outcome T
  says code more = goes_on r Binary (code_does r slot code) more

  abbrev does : Code × List ℕ → Outcome T
  does c = says c.0 c.1

  groups_read : (v w : ℕ) (bytes : List ℕ) → outcome_at r Binary (InNumber slot (Groups v w)) bytes ≡ does (code_at r.last_weight v w bytes)
  unfolding outcome_at
  groups_read v w bytes = partial_says r.last_weight says (λ v w b bs. refl) v w bytes

  begun_read : (bytes : List ℕ) → outcome_at r Binary (Within slot) bytes ≡ does (code_at r.last_weight 0 1 bytes)
  unfolding outcome_at
  begun_read [] = groups_read 0 1 []
  begun_read (b ∷ bs) = groups_read 0 1 (b ∷ bs)

  fails_read : {a b : Known} {kind : DratKind} → FailsCode r.last_weight a b kind → Fails a b (outcome_at r Binary (Within slot)) ([], Faulty kind)
  unfolding outcome_at
  fails_read (too_long p) = by_byte (leads_by does begun_read p (λ m. refl))
  fails_read (cut_off v w p) = by_end (ends_by does begun_read p)

  -- a number does what its value does
  pub code_read : {R : Type 0} (a b : Known) (last : ℕ) (source : Source R) (n : Result ℕ (Stop DratKind)) → last ≡ r.last_weight → TakesCode last a b source n →
      ReadsCode r slot a b (outcome_at r Binary (Within slot)) source n
  code_read a b last source (Ok n) is p = leads_by does begun_read (rw is at p) (λ m. refl)
  code_read a b last source (Err stops.Read) is p =
      let q = rw is at p.0 in
      (record { place = InNumber slot (Groups q.value q.weight); leads = leads_by does begun_read q.leads (λ m. sym (groups_read q.value q.weight m)) }, p.1)
  code_read a b last source (Err (stops.Wrong kind)) is p = fails_read (rw is at p)
  code_read a b last source (Err stops.OutOfMemory) is p = tt
  code_read a b last source (Err stop) is p = absurd p
