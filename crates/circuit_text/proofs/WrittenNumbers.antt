-- Numbers of a text: what the reader makes of digits and of bytes of seven bits, and of which digits and bytes it is.
use Rattle.std.proofs.Common.{◌≡◌, ℕ, zero, suc, ◌+◌, ◌-◌, ◌*◌, ◌%◌, ◌^◌, ◌<◌, ◌≤◌, Bool, true, false, List, [], ◌∷◌, ◌++◌, Some, refl, sym, ap, subst, ◌∙◌, inl, inr, arith}
use Rattle.std.specs.Prelude.{Option, None, ◌⊎◌, ◌&&◌, min, nat_lt, unwrap_or}
use Rattle.std.specs.List.{list_all}
use Rattle.std.proofs.lemmas.Bool.{cases_Bool, lt-ltb, ltb-true, ltb-false}
use Rattle.sat_formula.specs.Bytes.{is_digit}
use Rattle.sat_formula.specs.Digits.{value_after}
use Rattle.circuit_text.specs.declared.fault.AigerKind.TheVariants as kinds
use Rattle.circuit_text.specs.declared.fault.Location.{Location}
use Rattle.circuit_text.specs.declared.header.Header.{Header}
use Rattle.circuit_text.specs.declared.number.Digits.{Digits}
use Rattle.circuit_text.specs.declared.number.Digits.TheVariants as digits
use Rattle.circuit_text.specs.declared.number.Number as read
use Rattle.circuit_text.specs.declared.number.Number.TheVariants as numbers
use Rattle.circuit_text.specs.declared.spot.Place.{Place}
use Rattle.circuit_text.specs.declared.spot.Spot.{Spot}
use Rattle.circuit_text.specs.declared.spot.After.{After}
use Rattle.circuit_text.specs.declared.spot.After.TheVariants.{Next, Gives, Stops}
use Rattle.circuit_text.specs.automaton.Aigers.{Outcome, Says, Faulty, Step, On, Off, taken, outcome_at}
use Rattle.circuit_text.specs.automaton.Items.{with_item}
use Rattle.circuit_text.specs.Circuits.{Circuit}
use Rattle.circuit_text.specs.automaton.Numbers.{digits_after, ended, number_after}
use Rattle.circuit_text.specs.automaton.Places.{after, is_done, location}
use Rattle.circuit_text.specs.Written.{Number, Groups, decimal_from}

-- ---- a byte

abbrev pub at : Header → ℕ → ℕ → Place → Spot
at h line item p = record { header = h; line = line; item = item; place = p }

-- what a byte does, and the bytes after it
abbrev pub onward : Circuit → Location → After → List ℕ → Outcome
onward c l (Next s) more = outcome_at c s more
onward c l (Gives item s) more = outcome_at (with_item c item) s more
onward c l (Stops kind) more = Faulty l kind

abbrev goes_on : Step → List ℕ → Outcome
goes_on d more = elim d [ On c s ↦ outcome_at c s more | Off l kind ↦ Faulty l kind ]

taken_read : (c : Circuit) (l : Location) (a : After) (more : List ℕ) → goes_on (taken c l a) more ≡ onward c l a more
taken_read c l (Next s) more = refl
taken_read c l (Gives item s) more = refl
taken_read c l (Stops kind) more = refl

pub byte_read : (c : Circuit) (s : Spot) (b : ℕ) (more : List ℕ) → outcome_at c s (b ∷ more) ≡ onward c (location s) (after s b) more
unfolding outcome_at
byte_read c s b more = taken_read c (location s) (after s b) more

-- the text does not end in the middle
pub no_end : (c r : Circuit) (s : Spot) → is_done s.place ≡ false → outcome_at c s [] ≡ Says r → ⊥
unfolding outcome_at
no_end c r s e h = let bad = rw e at h in absurd cc

pub no_stop : (c r : Circuit) (l : Location) (a : After) (more : List ℕ) (kind : _) → a ≡ Stops kind → onward c l a more ≡ Says r → ⊥
no_stop c r l a more kind e h = let bad = rw e at h in absurd cc

pub and_left : (a b : Bool) → (a && b) ≡ true → a ≡ true
and_left true b e = refl
and_left false b e = e

pub and_right : (a b : Bool) → (a && b) ≡ true → b ≡ true
and_right true b e = e
and_right false b e = absurd cc

-- ---- digits

-- a place in digits, where K has their value so far, and f says what follows them
pub record IsDigitPlace (K : Option ℕ → Place) (f : Spot → Digits → ℕ → After) : Type 0 where
  pub byte : (h : Header) (line item : ℕ) (v : Option ℕ) (b : ℕ) → after (at h line item (K v)) b ≡ f (at h line item (K v)) (digits_after v b) b
  pub more : (h : Header) (line item : ℕ) (v : Option ℕ) (n b : ℕ) → f (at h line item (K v)) (digits.More n) b ≡ Next (at h line item (K (Some n)))
  pub missing : (s : Spot) (b : ℕ) → f s digits.Missing b ≡ Stops kinds.Malformed
  pub within : (v : Option ℕ) → is_done (K v) ≡ false

-- the value that the reader has after digits
abbrev pub saturated : Option ℕ → List ℕ → Option ℕ
saturated v [] = v
saturated v (d ∷ ds) = saturated (Some (value_after (unwrap_or v 0) d)) ds

pub digit_more : (v : Option ℕ) (b : ℕ) → is_digit b ≡ true → digits_after v b ≡ digits.More (value_after (unwrap_or v 0) b)
digit_more v b dig = rw dig refl

digit_end : (v : Option ℕ) (b : ℕ) → is_digit b ≡ false → digits_after v b ≡ ended v
digit_end v b other = rw other refl

module _ (K : Option ℕ → Place) (f : Spot → Digits → ℕ → After) (p : IsDigitPlace K f) (c : Circuit) (h : Header) (line item : ℕ) where
  one_more : (v : Option ℕ) (b : ℕ) (more : List ℕ) → is_digit b ≡ true →
      outcome_at c (at h line item (K v)) (b ∷ more) ≡ outcome_at c (at h line item (K (Some (value_after (unwrap_or v 0) b)))) more
  one_more v b more dig =
      byte_read c (at h line item (K v)) b more
      ∙ ap (λ a. onward c (location (at h line item (K v))) a more)
      (p.byte h line item v b ∙ ap (λ d. f (at h line item (K v)) d b) (digit_more v b dig) ∙ p.more h line item v (value_after (unwrap_or v 0) b) b)

  one_end : (v : Option ℕ) (b : ℕ) (more : List ℕ) → is_digit b ≡ false →
      outcome_at c (at h line item (K v)) (b ∷ more) ≡ onward c (location (at h line item (K v))) (f (at h line item (K v)) (ended v) b) more
  one_end v b more other =
      byte_read c (at h line item (K v)) b more
      ∙ ap (λ a. onward c (location (at h line item (K v))) a more) (p.byte h line item v b ∙ ap (λ d. f (at h line item (K v)) d b) (digit_end v b other))

  pub digits_read : (v : Option ℕ) (n : ℕ) (ds : List ℕ) (b : ℕ) (more : List ℕ) → list_all is_digit ds ≡ true → is_digit b ≡ false → saturated v ds ≡ Some n →
      outcome_at c (at h line item (K v)) (ds ++ b ∷ more)
      ≡ onward c (location (at h line item (K (Some n)))) (f (at h line item (K (Some n))) (digits.Whole n) b) more
  digits_read v n [] b more all other e =
      subst (λ w. outcome_at c (at h line item (K w)) (b ∷ more) ≡ onward c (location (at h line item (K (Some n)))) (f (at h line item (K (Some n))) (digits.Whole n) b) more)
      (sym e) (one_end (Some n) b more other)
  digits_read v n (d ∷ ds) b more all other e =
      one_more v d (ds ++ b ∷ more) (and_left (is_digit d) (list_all is_digit ds) all)
      ∙ digits_read (Some (value_after (unwrap_or v 0) d)) n ds b more (and_right (is_digit d) (list_all is_digit ds) all) other e

  -- what was read, if a text says a circuit from such a place on
  pub record DigitsRead (v : Option ℕ) (text : List ℕ) (r : Circuit) : Type 0 where
    pub begun : List ℕ
    pub n : ℕ
    pub byte : ℕ
    pub more : List ℕ
    pub whole : text ≡ begun ++ byte ∷ more
    pub all : list_all is_digit begun ≡ true
    pub value : saturated v begun ≡ Some n
    pub on : onward c (location (at h line item (K (Some n)))) (f (at h line item (K (Some n))) (digits.Whole n) byte) more ≡ Says r

  ended_back : (r : Circuit) (v : Option ℕ) (b : ℕ) (more : List ℕ) → onward c (location (at h line item (K v))) (f (at h line item (K v)) (ended v) b) more ≡ Says r →
      DigitsRead v (b ∷ more) r
  ended_back r None b more e = absurd (no_stop c r _ _ more kinds.Malformed (p.missing (at h line item (K None)) b) e)
  ended_back r (Some n) b more e = record { begun = []; n = n; byte = b; more = more; whole = refl; all = refl; value = refl; on = e }

  pub digits_back : (r : Circuit) (v : Option ℕ) (text : List ℕ) → outcome_at c (at h line item (K v)) text ≡ Says r → DigitsRead v text r
  digits_back r v [] e = absurd (no_end c r (at h line item (K v)) (p.within v) e)
  digits_back r v (b ∷ more) e = elim (cases_Bool (is_digit b)) [
    | inl dig ↦ further r v b more dig (digits_back r (Some (value_after (unwrap_or v 0) b)) more (sym (one_more v b more dig) ∙ e))
    | inr other ↦ ended_back r v b more (sym (one_end v b more other) ∙ e)
  ]
    where
      further : (r : Circuit) (v : Option ℕ) (b : ℕ) (more : List ℕ) → is_digit b ≡ true → DigitsRead (Some (value_after (unwrap_or v 0) b)) more r → DigitsRead v (b ∷ more) r
      further r v b more dig d = record {
        begun = b ∷ d.begun;
        n = d.n;
        byte = d.byte;
        more = d.more;
        whole = ap (λ (l : List ℕ). b ∷ l) d.whole;
        all = rw dig d.all;
        value = d.value;
        on = d.on;
      }

-- ---- the value of digits, of which the reader keeps only that it is large if it is

abbrev pub Same : ℕ → ℕ → Type 0
Same m n = (m ≡ n) ⊎ ((2 ^ 31 ≤ m) × (2 ^ 31 ≤ n))

same_step : (a w d : ℕ) → Same a w → Same (min a (2 ^ 28 + 1) * 10 + d) (w * 10 + d)
same_step a w d (inl e) = elim (cases_Bool (nat_lt a (2 ^ 28 + 1))) [
  | inl low ↦ let less = ltb-true a (2 ^ 28 + 1) low in inl (omega arith)
  | inr high ↦ let le = ltb-false a (2 ^ 28 + 1) high in inr (omega arith, omega arith)
]
same_step a w d (inr e) = let low = e.0 in let high = e.1 in inr (omega arith, omega arith)

saturated_value : (v : Option ℕ) (w : ℕ) (ds : List ℕ) (n : ℕ) → Same (unwrap_or v 0) w → saturated v ds ≡ Some n → Same n (decimal_from w ds)
saturated_value v w [] n same e = subst (λ m. Same m w) (ap (λ (o : Option ℕ). unwrap_or o 0) e) same
saturated_value v w (d ∷ ds) n same e = saturated_value (Some (value_after (unwrap_or v 0) d)) (w * 10 + (d - 48)) ds n (same_step (unwrap_or v 0) w (d - 48) same) e

saturated_some : (v : ℕ) (ds : List ℕ) → (m : ℕ) × (saturated (Some v) ds ≡ Some m)
saturated_some v [] = (v, refl)
saturated_some v (d ∷ ds) = saturated_some (value_after v d) ds

same_small : (m n : ℕ) → n < 2 ^ 31 → Same m n → m ≡ n
same_small m n lt (inl e) = e
same_small m n lt (inr e) = let large = e.1 in absurd (omega arith)

same_small_read : (m n : ℕ) → m < 2 ^ 31 → Same m n → n ≡ m
same_small_read m n lt (inl e) = sym e
same_small_read m n lt (inr e) = let large = e.0 in absurd (omega arith)

pub number_saturated : (n : ℕ) (text : List ℕ) → Number n text → n < 2 ^ 31 → saturated None text ≡ Some n
number_saturated n [] is lt = let some = is.some in absurd (omega arith)
number_saturated n (d ∷ ds) is lt =
    let m = saturated_some (value_after 0 d) ds in
    let same : Same m.0 n = subst (Same m.0) is.value (saturated_value None 0 (d ∷ ds) m.0 (inl refl) m.1) in
    m.1 ∙ ap (λ (k : ℕ). Some k) (same_small m.0 n lt same)

pub saturated_number : (n : ℕ) (text : List ℕ) → list_all is_digit text ≡ true → saturated None text ≡ Some n → n < 2 ^ 31 → Number n text
saturated_number n [] all e lt = absurd cc
saturated_number n (d ∷ ds) all e lt = record {
  some = omega arith;
  digits = all;
  value = same_small_read n (decimal_from 0 (d ∷ ds)) lt (saturated_value None 0 (d ∷ ds) n (inl refl) e);
}

-- ---- bytes of seven bits

-- the weight of the next byte, where this many may follow
abbrev pub weight : ℕ → ℕ
weight zero = 2 ^ 35
weight (suc zero) = 2 ^ 28
weight (suc (suc zero)) = 2 ^ 21
weight (suc (suc (suc zero))) = 2 ^ 14
weight (suc (suc (suc (suc zero)))) = 2 ^ 7
weight (suc (suc (suc (suc (suc left))))) = 1

pub record IsGroupPlace (K : ℕ → ℕ → Place) (f : Spot → read.Number → After) : Type 0 where
  pub byte : (h : Header) (line item v w b : ℕ) → after (at h line item (K v w)) b ≡ f (at h line item (K v w)) (number_after v w b)
  pub more : (h : Header) (line item v w m x : ℕ) → f (at h line item (K v w)) (numbers.Partial m x) ≡ Next (at h line item (K m x))
  pub long : (s : Spot) → f s numbers.TooLong ≡ Stops kinds.NumberTooLarge
  pub within : (v w : ℕ) → is_done (K v w) ≡ false

last_byte : (v w b : ℕ) → b < 128 → number_after v w b ≡ numbers.Whole (v + b * w)
last_byte v w b lt = let same : b % 128 ≡ b = omega arith in rw (lt-ltb b 128 lt, same) refl

not_last : (b : ℕ) → 128 ≤ b → nat_lt b 128 ≡ false
not_last b le = elim (cases_Bool (nat_lt b 128)) [ inl low ↦ low_not b le (ltb-true b 128 low) | inr high ↦ high ]
  where
    low_not : (b : ℕ) → 128 ≤ b → b < 128 → nat_lt b 128 ≡ false
    low_not b le lt = absurd (omega arith)

too_long : (v b : ℕ) → 128 ≤ b → number_after v (weight 1) b ≡ numbers.TooLong
too_long v b le = rw (not_last b le) refl

next_byte : (left v b : ℕ) → left < 4 → v < weight (suc (suc left)) → 128 ≤ b →
    number_after v (weight (suc (suc left))) b ≡ numbers.Partial (v + (b % 128) * weight (suc (suc left))) (weight (suc left))
next_byte zero v b few low le = rw (not_last b le, lt-ltb (v + (b % 128) * 2 ^ 21) (2 ^ 32) (omega arith)) refl
next_byte (suc zero) v b few low le = rw (not_last b le, lt-ltb (v + (b % 128) * 2 ^ 14) (2 ^ 32) (omega arith)) refl
next_byte (suc (suc zero)) v b few low le = rw (not_last b le, lt-ltb (v + (b % 128) * 2 ^ 7) (2 ^ 32) (omega arith)) refl
next_byte (suc (suc (suc zero))) v b few low le = rw (not_last b le, lt-ltb (v + (b % 128) * 1) (2 ^ 32) (omega arith)) refl
next_byte (suc (suc (suc (suc left)))) v b few low le = absurd (omega arith)

next_weight : (left : ℕ) → left < 4 → weight (suc left) ≡ weight (suc (suc left)) * 128
next_weight zero few = refl
next_weight (suc zero) few = refl
next_weight (suc (suc zero)) few = refl
next_weight (suc (suc (suc zero))) few = refl
next_weight (suc (suc (suc (suc left)))) few = absurd (omega arith)

next_low : (left v b : ℕ) → left < 4 → v < weight (suc (suc left)) → v + (b % 128) * weight (suc (suc left)) < weight (suc left)
next_low zero v b few low = omega arith
next_low (suc zero) v b few low = omega arith
next_low (suc (suc zero)) v b few low = omega arith
next_low (suc (suc (suc zero))) v b few low = omega arith
next_low (suc (suc (suc (suc left)))) v b few low = absurd (omega arith)

sum_read : (left v b high n : ℕ) → left < 4 → n ≡ b + high * 128 →
    (v + b * weight (suc (suc left))) + high * weight (suc left) ≡ v + n * weight (suc (suc left))
sum_read zero v b high n few e = omega arith
sum_read (suc zero) v b high n few e = omega arith
sum_read (suc (suc zero)) v b high n few e = omega arith
sum_read (suc (suc (suc zero))) v b high n few e = omega arith
sum_read (suc (suc (suc (suc left)))) v b high n few e = absurd (omega arith)

no_groups : (n : ℕ) (bs : List ℕ) → Groups zero n bs → ⊥
no_groups n [] is = is
no_groups n (b ∷ bs) is = is

module _ (K : ℕ → ℕ → Place) (f : Spot → read.Number → After) (p : IsGroupPlace K f) (c : Circuit) (h : Header) (line item : ℕ) where
  group_byte : (v w b : ℕ) (x : read.Number) (more : List ℕ) → number_after v w b ≡ x →
      outcome_at c (at h line item (K v w)) (b ∷ more) ≡ onward c (location (at h line item (K v w))) (f (at h line item (K v w)) x) more
  group_byte v w b x more e =
      byte_read c (at h line item (K v w)) b more
      ∙ ap (λ a. onward c (location (at h line item (K v w))) a more) (p.byte h line item v w b ∙ ap (f (at h line item (K v w))) e)

  group_more : (left v b : ℕ) (more : List ℕ) → left < 4 → v < weight (suc (suc left)) → 128 ≤ b →
      outcome_at c (at h line item (K v (weight (suc (suc left))))) (b ∷ more)
      ≡ outcome_at c (at h line item (K (v + (b % 128) * weight (suc (suc left))) (weight (suc left)))) more
  group_more left v b more few low le =
      let w = weight (suc (suc left)) in let m = v + (b % 128) * w in
      group_byte v w b (numbers.Partial m (weight (suc left))) more (next_byte left v b few low le)
      ∙ ap (λ a. onward c (location (at h line item (K v w))) a more) (p.more h line item v w m (weight (suc left)))

  abbrev Ends : ℕ → ℕ → ℕ → List ℕ → Circuit → Type 0
  Ends x w n more r = onward c (location (at h line item (K x w))) (f (at h line item (K x w)) (numbers.Whole n)) more ≡ Says r

  pub groups_read : (r : Circuit) (left v n : ℕ) (bs more : List ℕ) → left < 5 → v < weight (suc left) → Groups (suc left) n bs →
      ((x w : ℕ) → Ends x w (v + n * weight (suc left)) more r) → outcome_at c (at h line item (K v (weight (suc left)))) (bs ++ more) ≡ Says r
  groups_read r left v n [] more few low is k = absurd is
  groups_read r left v n (b ∷ bs) more few low (inl is) k =
      let w = weight (suc left) in
      subst (λ (l : List ℕ). outcome_at c (at h line item (K v w)) (b ∷ l ++ more) ≡ Says r) (sym is.2)
      (group_byte v w b (numbers.Whole (v + b * w)) more (last_byte v w b is.0) ∙ subst (λ (m : ℕ). Ends v w (v + m * w) more r) is.1 (k v w))
  groups_read r zero v n (b ∷ bs) more few low (inr is) k = absurd (no_groups is.1.0 bs is.1.2)
  groups_read r (suc left) v n (b ∷ bs) more few low (inr is) k =
      let w = weight (suc (suc left)) in
      let few4 : left < 4 = omega arith in
      group_more left v b (bs ++ more) few4 low is.0
      ∙ groups_read r left (v + (b % 128) * w) is.1.0 bs more (omega arith) (next_low left v b few4 low) is.1.2
      (λ x y. subst (λ (m : ℕ). Ends x y m more r) (sym (sum_read left v (b % 128) is.1.0 n few4 is.1.1)) (k x y))

  pub record GroupsRead (left v : ℕ) (text : List ℕ) (r : Circuit) : Type 0 where
    pub bytes : List ℕ
    pub n : ℕ
    pub more : List ℕ
    pub x : ℕ
    pub w : ℕ
    pub whole : text ≡ bytes ++ more
    pub is : Groups (suc left) n bytes
    pub on : Ends x w (v + n * weight (suc left)) more r

  group_last : (r : Circuit) (left v b : ℕ) (more : List ℕ) → b < 128 → outcome_at c (at h line item (K v (weight (suc left)))) (b ∷ more) ≡ Says r →
      GroupsRead left v (b ∷ more) r
  group_last r left v b more lt e = record {
    bytes = b ∷ [];
    n = b;
    more = more;
    x = v;
    w = weight (suc left);
    whole = refl;
    is = inl (lt, refl, refl);
    on = sym (group_byte v (weight (suc left)) b (numbers.Whole (v + b * weight (suc left))) more (last_byte v (weight (suc left)) b lt)) ∙ e;
  }

  group_then : (r : Circuit) (left v b : ℕ) (more : List ℕ) → left < 4 → 128 ≤ b → GroupsRead left (v + (b % 128) * weight (suc (suc left))) more r →
      GroupsRead (suc left) v (b ∷ more) r
  group_then r left v b more few le d = record {
    bytes = b ∷ d.bytes;
    n = b % 128 + d.n * 128;
    more = d.more;
    x = d.x;
    w = d.w;
    whole = ap (λ (l : List ℕ). b ∷ l) d.whole;
    is = inr (le, (d.n, refl, d.is));
    on = subst (λ (m : ℕ). Ends d.x d.w m d.more r) (sum_read left v (b % 128) d.n (b % 128 + d.n * 128) few refl) d.on;
  }

  group_long : (r : Circuit) (v b : ℕ) (more : List ℕ) → 128 ≤ b → outcome_at c (at h line item (K v (weight 1))) (b ∷ more) ≡ Says r → ⊥
  group_long r v b more le e =
      no_stop c r (location (at h line item (K v (weight 1)))) (f (at h line item (K v (weight 1))) numbers.TooLong) more kinds.NumberTooLarge
      (p.long (at h line item (K v (weight 1)))) (sym (group_byte v (weight 1) b numbers.TooLong more (too_long v b le)) ∙ e)

  pub groups_back : (r : Circuit) (left v : ℕ) (text : List ℕ) → left < 5 → v < weight (suc left) →
      outcome_at c (at h line item (K v (weight (suc left)))) text ≡ Says r → GroupsRead left v text r
  groups_back r left v [] few low e = absurd (no_end c r (at h line item (K v (weight (suc left)))) (p.within v (weight (suc left))) e)
  groups_back r zero v (b ∷ more) few low e = elim (cases_Bool (nat_lt b 128)) [
    | inl small ↦ group_last r zero v b more (ltb-true b 128 small) e
    | inr large ↦ absurd (group_long r v b more (ltb-false b 128 large) e)
  ]
  groups_back r (suc left) v (b ∷ more) few low e = elim (cases_Bool (nat_lt b 128)) [
    | inl small ↦ group_last r (suc left) v b more (ltb-true b 128 small) e
    | inr large ↦
        let few4 : left < 4 = omega arith in
        let le = ltb-false b 128 large in
        group_then r left v b more few4 le
        (groups_back r left (v + (b % 128) * weight (suc (suc left))) more (omega arith) (next_low left v b few4 low) (sym (group_more left v b more few4 low le) ∙ e))
  ]
