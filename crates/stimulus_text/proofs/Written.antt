-- Byte after byte a stimulus says what its lines say.
use Rattle.std.proofs.Common.{◌≡◌, ℕ, ◌+◌, ◌≤◌, Bool, true, false, cond, List, [], ◌∷◌, ◌++◌, length, Some, refl, ap, ◌∙◌, append_assoc, append-nil, arith, inl, inr}
use Rattle.std.specs.Prelude.{◌&&◌, ◌==◌, ◌⊎◌, Option, None, codes, nat_lt}
use Rattle.std.specs.List.{list_all}
use Rattle.std.specs.Str.{bytes_eq}
use Rattle.std.proofs.lemmas.Bool.{cases_Bool, ne_eqb, cases_eq, ltb-false}
use Rattle.std.proofs.lemmas.Bool.Decides.{nat_tests}
use Rattle.sat_formula.specs.Bytes.{is_digit, is_lf}
use Rattle.sat_formula.specs.Lines.{is_digits}
use Rattle.sat_formula.specs.Outcome.{next_line}
use Rattle.sat_formula.proofs.Lines.{front, others, slice_split-front}
use Rattle.stimulus_text.specs.declared.spot.Shape.{Shape}
use Rattle.stimulus_text.specs.declared.spot.Row.TheVariants.{Latches, Inputs}
use Rattle.stimulus_text.specs.declared.spot.Place.{Place}
use Rattle.stimulus_text.specs.declared.spot.Place.TheVariants as places
use Rattle.stimulus_text.specs.declared.spot.Spot.{Spot}
use Rattle.stimulus_text.specs.declared.spot.After.{After}
use Rattle.stimulus_text.specs.declared.spot.After.TheVariants.{Next, Gives, Stops}
use Rattle.stimulus_text.specs.declared.stimulus.Item.TheVariants.{OfLatch, OfInput, OfStep}
use Rattle.stimulus_text.specs.automaton.Items.{Told, nothing_told, with_item}
use Rattle.stimulus_text.specs.automaton.Places.{after, in_values, value_of}
use Rattle.stimulus_text.specs.automaton.Texts.{Outcome, Faulty, Step, On, Off, outcome_at, outcome_of, taken}
use Rattle.stimulus_text.specs.Laws.{said}
use Rattle.stimulus_text.specs.Written.{are_comments, are_properties, is_property, is_value, latches_from, steps_from, stimulus_in, stimulus_of, values_in}

abbrev Values : Type 0
Values = Option (List Bool × List (List Bool))

abbrev at : Shape → ℕ → Place → Spot
at shape line place = record { shape = shape; line = line; place = place }

-- ---- what one byte leads to

abbrev leads : (Told → Spot → Outcome) → Told → ℕ → After → Outcome
leads k t line (Next s) = k t s
leads k t line (Gives item s) = k (with_item t item) s
leads k t line (Stops kind) = Faulty line kind

abbrev goes_on : Step → List ℕ → Outcome
goes_on d bytes = elim d [ On more next ↦ outcome_at more next bytes | Off line kind ↦ Faulty line kind ]

taken-leads : (t : Told) (line : ℕ) (a : After) (bytes : List ℕ) → goes_on (taken t line a) bytes ≡ leads (λ u s. outcome_at u s bytes) t line a
taken-leads t line (Next s) bytes = refl
taken-leads t line (Gives item s) bytes = refl
taken-leads t line (Stops kind) bytes = refl

byte_read : (t : Told) (s : Spot) (b : ℕ) (bytes : List ℕ) → outcome_at t s (b ∷ bytes) ≡ leads (λ u r. outcome_at u r bytes) t s.line (after s b)
unfolding outcome_at
byte_read t s b bytes = taken-leads t s.line (after s b) bytes

-- ---- what the rest of a line and the lines after it give at each place

abbrev ended : Told → List (List ℕ) → Values
ended t ls = cond (are_comments ls) (Some (t.first, t.steps)) None

abbrev digits_rest : Bool → List ℕ → Bool
digits_rest false w = is_digits w
digits_rest true w = list_all is_digit w

abbrev latch_rest : Shape → Told → ℕ → List ℕ → List (List ℕ) → Values
latch_rest shape t n l ls = cond ((n + length l == shape.latches) && list_all is_value l) (steps_from shape.inputs (t.first ++ values_in l) [] ls) None

abbrev input_rest : Shape → Told → ℕ → List ℕ → List (List ℕ) → Values
input_rest shape t n l ls =
    cond ((n + length l == shape.inputs) && list_all is_value l) (steps_from shape.inputs t.first (t.steps ++ (t.inputs ++ values_in l) ∷ []) ls) None

abbrev rest : Shape → Place → Told → List ℕ → List (List ℕ) → Values
rest shape places.Status t l ls = stimulus_in shape (l ∷ ls)
rest shape places.Told t l ls = cond (bytes_eq l []) (latches_from shape ls) None
rest shape places.Properties t l ls = latches_from shape (l ∷ ls)
rest shape (places.Property any) t l ls =
    cond (digits_rest any (front (λ b. b == 32) l) && list_all is_property (others (λ b. b == 32) l)) (latches_from shape ls) None
rest shape places.Between t l ls = cond (are_properties l) (latches_from shape ls) None
rest shape (places.Values Latches n) t l ls = latch_rest shape t n l ls
rest shape (places.Values Inputs n) t l ls = cond ((n == 0) && bytes_eq l (codes ".")) (ended t ls) (input_rest shape t n l ls)
rest shape places.Dot t l ls = cond (bytes_eq l []) (ended t ls) None
rest shape places.LineStart t l ls = ended t (l ∷ ls)
rest shape places.Comment t l ls = ended t ls

-- before the line of the latches nothing was read, and before the steps no input
abbrev IsFit : Place → Told → Type 0
IsFit places.Status t = t ≡ nothing_told
IsFit places.Told t = t ≡ nothing_told
IsFit places.Properties t = t ≡ nothing_told
IsFit (places.Property any) t = t ≡ nothing_told
IsFit places.Between t = t ≡ nothing_told
IsFit (places.Values Latches n) t = (t.steps ≡ []) × (t.inputs ≡ [])
IsFit _ t = Unit {0}

no_value : (c : Bool) → (c && false) ≡ false
no_value true = refl
no_value false = refl

zero-plus : (n : ℕ) → 0 + n ≡ n
zero-plus n = omega arith

plus-zero : (n : ℕ) → n + 0 ≡ n
plus-zero n = omega arith

-- ---- the end of the text

at_end-rest : (shape : Shape) (p : Place) (line : ℕ) (t : Told) → said (outcome_at t (at shape line p) []) ≡ rest shape p t [] []
unfolding outcome_at latches_from steps_from are_comments
at_end-rest shape places.Status line t = refl
at_end-rest shape places.Told line t = refl
at_end-rest shape places.Properties line t = elim (cases_Bool (0 == shape.latches)) [ inl e ↦ rw e refl | inr e ↦ rw e refl ]
at_end-rest shape (places.Property true) line t = refl
at_end-rest shape (places.Property false) line t = refl
at_end-rest shape places.Between line t = refl
at_end-rest shape (places.Values Latches n) line t = elim (cases_Bool (n + 0 == shape.latches)) [ inl e ↦ rw e refl | inr e ↦ rw e refl ]
at_end-rest shape (places.Values Inputs n) line t =
    rw (no_value (n == 0)) (elim (cases_Bool (n + 0 == shape.inputs)) [ inl e ↦ rw e refl | inr e ↦ rw e refl ])
at_end-rest shape places.Dot line t = refl
at_end-rest shape places.LineStart line t = refl
at_end-rest shape places.Comment line t = refl

-- ---- an LF

module _ (shape : Shape) (k : Told → Spot → Outcome) (l : List ℕ) (ls : List (List ℕ)) (line : ℕ)
    (later : (p : Place) (t : Told) → IsFit p t → said (k t (at shape (next_line line) p)) ≡ rest shape p t l ls) where
  next_steps : (t : Told) → t.inputs ≡ [] → said (k t (at shape (next_line line) (places.Values Inputs 0))) ≡ steps_from shape.inputs t.first t.steps (l ∷ ls)
  unfolding steps_from
  next_steps t none = later (places.Values Inputs 0) t tt ∙ rw (zero-plus (length l), none) refl

  pub at_lf : (p : Place) (t : Told) → IsFit p t → said (leads k t line (after (at shape line p) 10)) ≡ rest shape p t [] (l ∷ ls)
  unfolding after latches_from are_comments
  at_lf places.Status t fit = refl
  at_lf places.Told t fit = later places.Properties t fit
  at_lf places.Properties t fit = elim (cases_Bool (0 == shape.latches)) [
    | inl e ↦ rw e (next_steps t (ap (λ (u : Told). u.inputs) fit) ∙ rw fit refl)
    | inr e ↦ rw e refl
  ]
  at_lf (places.Property true) t fit = later places.Properties t fit
  at_lf (places.Property false) t fit = refl
  at_lf places.Between t fit = refl
  at_lf (places.Values Latches n) t fit = rw (plus-zero n, append-nil t.first) (elim (cases_Bool (n == shape.latches)) [
    | inl e ↦ rw e (next_steps t fit.1 ∙ ap (λ steps. steps_from shape.inputs t.first steps (l ∷ ls)) fit.0)
    | inr e ↦ rw e refl
  ])
  at_lf (places.Values Inputs n) t fit = rw (plus-zero n, append-nil t.inputs, no_value (n == 0)) (elim (cases_Bool (n == shape.inputs)) [
    | inl e ↦ rw e (next_steps (with_item t OfStep) refl)
    | inr e ↦ rw e refl
  ])
  at_lf places.Dot t fit = later places.LineStart t tt
  at_lf places.LineStart t fit = refl
  at_lf places.Comment t fit = later places.LineStart t tt

-- ---- another byte

-- a byte that is no value, or one
value_cases : (b : ℕ) → ((value_of b ≡ None) × (is_value b ≡ false)) ⊎ (value_of b ≡ Some (b == 49)) × (is_value b ≡ true)
value_cases b = elim (cases_eq b 48) [
  | inl q ↦ inr (rw q (refl, refl))
  | inr zero ↦ elim (cases_eq b 120) [
    | inl q ↦ inr (rw q (refl, refl))
    | inr x ↦ elim (cases_Bool (b == 49)) [
      | inl e ↦ inr (rw (ne_eqb b 48 zero, ne_eqb b 120 x, e) (refl, refl))
      | inr e ↦ inl (rw (ne_eqb b 48 zero, ne_eqb b 120 x, e) (refl, refl))
    ]
  ]
]

suc-plus : (n : ℕ) (l : List ℕ) (b : ℕ) → n + 1 + length l ≡ n + length (b ∷ l)
suc-plus n l b = omega arith

module _ (shape : Shape) (k : Told → Spot → Outcome) (l : List ℕ) (ls : List (List ℕ)) (line : ℕ)
    (later : (p : Place) (t : Told) → IsFit p t → said (k t (at shape line p)) ≡ rest shape p t l ls)
    (b : ℕ) (n : b ≡ 10 → ⊥) where
  -- a value of a line of latches
  latch_byte : (p : Place) (m : ℕ) (t : Told) → (t.steps ≡ []) × (t.inputs ≡ []) →
      said (leads k t line (in_values (at shape line p) Latches m b)) ≡ latch_rest shape t m (b ∷ l) ls
  latch_byte p m t fit = elim (value_cases b) [
    | inl none ↦ rw (ne_eqb b 10 n, none.0, none.1, no_value (m + length (b ∷ l) == shape.latches)) refl
    | inr one ↦ elim (cases_Bool (nat_lt m shape.latches)) [
      | inl less ↦ rw (ne_eqb b 10 n, one.0, one.1, less) (
          later (places.Values Latches (m + 1)) (with_item t (OfLatch (b == 49))) fit
          ∙ rw (suc-plus m l b, append_assoc t.first ((b == 49) ∷ []) (values_in l)) refl
          )
      | inr more ↦
          let high : shape.latches ≤ m = ltb-false m shape.latches more in
          rw (ne_eqb b 10 n, one.0, one.1, more, ne_eqb (m + length (b ∷ l)) shape.latches (λ z. omega arith)) refl
    ]
  ]

  input_byte : (p : Place) (m : ℕ) (t : Told) → said (leads k t line (in_values (at shape line p) Inputs m b)) ≡ input_rest shape t m (b ∷ l) ls
  input_byte p m t = elim (value_cases b) [
    | inl none ↦ rw (ne_eqb b 10 n, none.0, none.1, no_value (m + length (b ∷ l) == shape.inputs)) refl
    | inr one ↦ elim (cases_Bool (nat_lt m shape.inputs)) [
      | inl less ↦ rw (ne_eqb b 10 n, one.0, one.1, less) (
          later (places.Values Inputs (m + 1)) (with_item t (OfInput (b == 49))) tt
          ∙ rw (ne_eqb (m + 1) 0 (λ z. omega arith), suc-plus m l b, append_assoc t.inputs ((b == 49) ∷ []) (values_in l)) refl
          )
      | inr more ↦
          let high : shape.inputs ≤ m = ltb-false m shape.inputs more in
          rw (ne_eqb b 10 n, one.0, one.1, more, ne_eqb (m + length (b ∷ l)) shape.inputs (λ z. omega arith)) refl
    ]
  ]

  status_byte : (t : Told) → t ≡ nothing_told → said (leads k t line (after (at shape line places.Status) b)) ≡ stimulus_in shape ((b ∷ l) ∷ ls)
  unfolding after
  status_byte t fit = elim (cases_eq b 49) [
    | inl q ↦ rw q (later places.Told t fit)
    | inr one ↦ elim (cases_Bool (b == 48)) [
      | inl e ↦ rw (ne_eqb b 49 one, e) refl
      | inr e ↦ elim (cases_Bool (b == 50)) [ inl f ↦ rw (ne_eqb b 49 one, e, f) refl | inr f ↦ rw (ne_eqb b 49 one, e, f) refl ]
    ]
  ]

  -- a line that does not begin with a `b` has no properties
  other_line : (b ≡ 98 → ⊥) → are_properties (b ∷ l) ≡ false
  other_line other = elim (cases_Bool (b == 32)) [
    | inl e ↦ rw e refl
    | inr e ↦ rw (e, slice_split-front (λ x. x == 32) l, ne_eqb b 98 other) refl
  ]

  -- a line that does
  property_line : are_properties (98 ∷ l) ≡ (is_digits (front (λ x. x == 32) l) && list_all is_property (others (λ x. x == 32) l))
  property_line = rw (slice_split-front (λ x. x == 32) l) refl

  properties_byte : (t : Told) → t ≡ nothing_told → said (leads k t line (after (at shape line places.Properties) b)) ≡ latches_from shape ((b ∷ l) ∷ ls)
  unfolding after latches_from
  properties_byte t fit = elim (cases_eq b 98) [
    | inl q ↦ rw (q, property_line, no_value (length (98 ∷ l) == shape.latches)) (later (places.Property false) t fit)
    | inr other ↦ rw (ne_eqb b 98 other, other_line other) (
        latch_byte places.Properties 0 t (ap (λ (u : Told). u.steps) fit, ap (λ (u : Told). u.inputs) fit)
        ∙ rw (fit, zero-plus (length (b ∷ l))) refl
        )
  ]

  property_byte : (any : Bool) (t : Told) → t ≡ nothing_told →
      said (leads k t line (after (at shape line (places.Property any)) b)) ≡ rest shape (places.Property any) t (b ∷ l) ls
  unfolding after
  property_byte any t fit = elim (cases_Bool (is_digit b)) [
    | inl d ↦ rw (d, no_space b d) (later (places.Property true) t fit ∙ by_any any d)
    | inr d ↦ by_other any d
  ]
    where
      no_space : (b : ℕ) → is_digit b ≡ true → (b == 32) ≡ false
      no_space b d = grind (arith, nat_tests)

      by_any : (any : Bool) → is_digit b ≡ true →
          cond (list_all is_digit (front (λ x. x == 32) l) && list_all is_property (others (λ x. x == 32) l)) (latches_from shape ls) None
          ≡ cond (digits_rest any (b ∷ front (λ x. x == 32) l) && list_all is_property (others (λ x. x == 32) l)) (latches_from shape ls) None
      by_any true d = rw d refl
      by_any false d = rw d refl

      by_other : (any : Bool) → is_digit b ≡ false → said (leads k t line (after (at shape line (places.Property any)) b)) ≡ rest shape (places.Property any) t (b ∷ l) ls
      by_other true d = elim (cases_Bool (b == 32)) [
        | inl e ↦ rw (d, ne_eqb b 10 n, e) (later places.Between t fit)
        | inr e ↦ rw (d, ne_eqb b 10 n, e, d) refl
      ]
      by_other false d = elim (cases_Bool (b == 32)) [ inl e ↦ rw (d, e) refl | inr e ↦ rw (d, e, d) refl ]

  inputs_byte : (m : ℕ) (t : Told) → said (leads k t line (after (at shape line (places.Values Inputs m)) b)) ≡ rest shape (places.Values Inputs m) t (b ∷ l) ls
  unfolding after
  inputs_byte m t = elim (cases_Bool (m == 0)) [
    | inl e ↦ elim (cases_eq b 46) [
      | inl q ↦ rw (e, q, no_value (m + length (46 ∷ l) == shape.inputs)) (later places.Dot t tt)
      | inr dot ↦ rw (e, ne_eqb b 46 dot) (input_byte (places.Values Inputs m) m t)
    ]
    | inr e ↦ rw e (input_byte (places.Values Inputs m) m t)
  ]

  pub at_byte : (p : Place) (t : Told) → IsFit p t → said (leads k t line (after (at shape line p) b)) ≡ rest shape p t (b ∷ l) ls
  unfolding after are_comments
  at_byte places.Status t fit = status_byte t fit
  at_byte places.Told t fit = rw (ne_eqb b 10 n) refl
  at_byte places.Properties t fit = properties_byte t fit
  at_byte (places.Property any) t fit = property_byte any t fit
  at_byte places.Between t fit = elim (cases_eq b 98) [
    | inl q ↦ rw (q, property_line) (later (places.Property false) t fit)
    | inr other ↦ rw (ne_eqb b 98 other, other_line other) refl
  ]
  at_byte (places.Values Latches m) t fit = latch_byte (places.Values Latches m) m t fit
  at_byte (places.Values Inputs m) t fit = inputs_byte m t
  at_byte places.Dot t fit = rw (ne_eqb b 10 n) refl
  at_byte places.LineStart t fit = elim (cases_eq b 99) [ inl q ↦ rw q (later places.Comment t tt) | inr other ↦ rw (ne_eqb b 99 other) refl ]
  at_byte places.Comment t fit = rw (ne_eqb b 10 n) (later places.Comment t tt)

-- ---- the text

abbrev Agrees : Shape → List ℕ → Type 0
Agrees shape bytes = (p : Place) (line : ℕ) (t : Told) → IsFit p t → said (outcome_at t (at shape line p) bytes) ≡ rest shape p t (front is_lf bytes) (others is_lf bytes)

agrees : (shape : Shape) (bytes : List ℕ) → Agrees shape bytes
agrees shape [] p line t fit = at_end-rest shape p line t
agrees shape (b ∷ bytes) p line t fit =
    ap said (byte_read t (at shape line p) b bytes) ∙ elim (cases_eq b 10) [
      | inl q ↦ rw (q, slice_split-front is_lf bytes) (at_lf shape (λ u r. outcome_at u r bytes) (front is_lf bytes) (others is_lf bytes) line
          (λ q u f. agrees shape bytes q (next_line line) u f) p t fit)
      | inr n ↦ rw (ne_eqb b 10 n) (at_byte shape (λ u r. outcome_at u r bytes) (front is_lf bytes) (others is_lf bytes) line
          (λ q u f. agrees shape bytes q line u f) b n p t fit)
    ]

pub are_lines : (shape : Shape) (text : List ℕ) → said (outcome_of shape text) ≡ stimulus_of shape text
are_lines shape text = agrees shape text places.Status 1 nothing_told refl ∙ rw (slice_split-front is_lf text) refl
