-- Short numbers in front of the bytes that are read ahead.
use Rattle.std.proofs.Common.{◌≡◌, ℕ, zero, suc, ◌+◌, ◌-◌, ◌*◌, ◌^◌, ◌<◌, ◌≤◌, Bool, true, false, List, [], ◌∷◌, ◌++◌, length, get_or, take, drop, refl, sym, subst, ap, ◌∙◌, append_assoc, arith}
use Rattle.std.proofs.Math.Nat.{pow-le-pow_right, pow-suc}
use Rattle.std.proofs.lemmas.Bool.{eqb-true}
use Rattle.std.proofs.lemmas.Bool.Decides.{nat_tests}
use Rattle.std.proofs.lemmas.List.{take_all, take_more}
use Rattle.std.specs.Prelude.{◌==◌, ◌||◌, slice_index, min, IsTrue, if◌then◌else◌}
use Rattle.std.specs.Io.KnownBytes.{Consumes}
use Rattle.sat_formula.specs.declared.word.Number.{Number}
use Rattle.sat_formula.specs.declared.word.Number.TheVariants.{Sign, Digits}
use Rattle.sat_formula.specs.declared.past.Past.{Past}
use Rattle.sat_formula.specs.Bytes.{is_blank, is_digit}
use Rattle.sat_formula.specs.Words.{begun_by, number_after}
use Rattle.sat_formula.specs.Text.{State, At, InNumber, Goes, next_at}
use Rattle.sat_formula.specs.Readings.{Known, Leads}
use Rattle.sat_formula.specs.Reading.{place_of}
use Rattle.sat_formula.specs.ShortNumbers.{HasDigits, IsShortNumber}
use Rattle.sat_formula.proofs.Steps.{step_goes, number_runs, word_number}

-- ---- a digit

no_end : (x : ℕ) → is_digit x ≡ true → (is_blank x || (x == 10)) ≡ false
no_end x e = grind (arith, nat_tests)

no_blank : (x : ℕ) → is_digit x ≡ true → is_blank x ≡ false
no_blank x e = grind (arith, nat_tests)

pub no_minus : (x : ℕ) → is_digit x ≡ true → (x == 45) ≡ false
no_minus x e = grind (arith, nat_tests)

not_at : (x y : ℕ) → is_digit x ≡ true → is_digit y ≡ false → x ≡ y → ⊥
not_at x y e f z = let bad : is_digit y ≡ true = subst (λ k. is_digit k ≡ true) z e in let no = f in absurd cc

pub digit_small : (x : ℕ) → is_digit x ≡ true → x - 48 ≤ 9
digit_small x e = grind (arith, nat_tests, e)

begun_by-digit : (x : ℕ) → is_digit x ≡ true → begun_by x ≡ Digits false (x - 48)
begun_by-digit x e = rw (no_minus x e, e) refl

sign_then : (x : ℕ) → is_digit x ≡ true → number_after Sign x ≡ Digits true (x - 48)
sign_then x e = rw e refl

digit_then : (negative : Bool) (v x : ℕ) → is_digit x ≡ true → v ≤ 2 ^ 28 → number_after (Digits negative v) x ≡ Digits negative (v * 10 + (x - 48))
digit_then negative v x e small =
    let same : min v (2 ^ 28 + 1) ≡ v = omega (arith, small) in
    rw (e, same) refl

module _ (line : ℕ) (past : Past) (begun : List ℕ) where
  abbrev within : Number → State
  within n = At line past begun (InNumber n)

  digit_read : (x : ℕ) (n m : Number) (more : List ℕ) → is_digit x ≡ true → number_after n x ≡ m → next_at (within n) (x ∷ more) ≡ next_at (within m) more
  digit_read x n m more e p = step_goes (within n) (within m) x more (number_runs x line past begun n (no_end x e) ∙ ap (λ k. Goes (within k)) p)

  -- before its first digit a number is like one of the value 0
  first_read : (x : ℕ) (negative : Bool) (more : List ℕ) → is_digit x ≡ true → next_at (within (Digits negative (x - 48))) more ≡ next_at (within (Digits negative 0)) (x ∷ more)
  first_read x negative more e =
      let none : x - 48 ≡ 0 * 10 + (x - 48) = omega arith in
      ap (λ v. next_at (within (Digits negative v)) more) none ∙ sym (digit_read x (Digits negative 0) (Digits negative (0 * 10 + (x - 48))) more e (digit_then negative 0 x e (omega arith)))

  plain_begins : (x : ℕ) (in_line : Bool) (more : List ℕ) → is_digit x ≡ true → next_at (At line past begun (place_of in_line)) (x ∷ more) ≡ next_at (within (Digits false 0)) (x ∷ more)
  plain_begins x in_line more e =
      step_goes (At line past begun (place_of in_line)) (within (begun_by x)) x more
      (word_number x line past begun in_line (not_at x 10 e refl) (no_blank x e) (λ f. (not_at x 99 e refl, not_at x 37 e refl, not_at x 112 e refl)))
      ∙ ap (λ n. next_at (within n) more) (begun_by-digit x e) ∙ first_read x false more e

  negative_begins : (x : ℕ) (in_line : Bool) (more : List ℕ) → is_digit x ≡ true → next_at (At line past begun (place_of in_line)) (45 ∷ x ∷ more) ≡ next_at (within (Digits true 0)) (x ∷ more)
  negative_begins x in_line more e =
      step_goes (At line past begun (place_of in_line)) (within Sign) 45 (x ∷ more)
      (word_number 45 line past begun in_line (λ z. absurd cc) refl (λ f. (λ z. absurd cc, λ z. absurd cc, λ z. absurd cc)))
      ∙ digit_read x Sign (Digits true (x - 48)) more e (sign_then x e) ∙ first_read x true more e

-- ---- digits in front

suc-is : (n : ℕ) → n + 1 ≡ suc n
suc-is n = omega arith

power : (n : ℕ) → n < 9 → 10 ^ n ≤ 10 ^ 8
power n few = pow-le-pow_right {n = 10} (omega arith) {i = n} {j = 8} (omega (arith, few))

pub digits_below : (bytes : List ℕ) (n v : ℕ) → n ≤ 9 → HasDigits bytes n v → v < 10 ^ 9
digits_below bytes n v few h = let small = h.small in let top : 10 ^ n ≤ 10 ^ 9 = pow-le-pow_right {n = 10} (omega arith) {i = n} {j = 9} few in omega arith

pub digits_none : (bytes : List ℕ) → HasDigits bytes 0 0
digits_none bytes = record { small = omega arith; digits = λ k lt. absurd (omega (arith, lt)); reads = λ line past begun negative more. refl }

pub digits_more : (bytes : List ℕ) (n v : ℕ) → HasDigits bytes n v → n < length bytes → n < 9 → is_digit (slice_index bytes n) ≡ true →
    HasDigits bytes (n + 1) (v * 10 + (slice_index bytes n - 48))
digits_more bytes n v h lt few e = record {
  small = let small = h.small in omega (arith, small, digit_small (slice_index bytes n) e, pow-suc 10 n, ap (λ m. 10 ^ m) (suc-is n));
  digits = λ k below. at_or_before k (k == n) refl below;
  reads = λ line past begun negative more.
      let small = h.small in
      ap (next_at (At line past begun (InNumber (Digits negative 0)))) (one_more more) ∙ h.reads line past begun negative (slice_index bytes n ∷ more) ∙
      digit_read line past begun (slice_index bytes n) (Digits negative v) (Digits negative (v * 10 + (slice_index bytes n - 48))) more e
      (digit_then negative v (slice_index bytes n) e (omega (arith, small, power n few)));
}
  where
    one_more : (more : List ℕ) → take (n + 1) bytes ++ more ≡ take n bytes ++ slice_index bytes n ∷ more
    one_more more = ap (λ (l : List ℕ). l ++ more) (take_more bytes n 0 lt) ∙ append_assoc (take n bytes) (get_or bytes n 0 ∷ []) more

    at_or_before : (k : ℕ) (b : Bool) → (k == n) ≡ b → k < n + 1 → is_digit (slice_index bytes k) ≡ true
    at_or_before k true p below = subst (λ i. is_digit (slice_index bytes i) ≡ true) (sym (eqb-true k n p)) e
    at_or_before k false p below = h.digits k (grind (arith, nat_tests, p, below))

-- ---- a short number

plain_short : (bytes : List ℕ) (n v end : ℕ) → HasDigits bytes n v → n < length bytes → (n ≡ 0 → ⊥) → slice_index bytes n ≡ end → IsTrue (is_blank end || (end == 10)) →
    IsShortNumber bytes (Digits false v) n end
plain_short bytes zero v end h lt some at ends = absurd (some refl)
plain_short [] (suc n) v end h lt some at ends = absurd (omega (arith, lt))
plain_short (x ∷ bytes) (suc n) v end h lt some at ends = record {
  within = lt;
  reads = λ line past begun in_line more. plain_begins line past begun x in_line (take n bytes ++ more) (h.digits 0 (omega arith)) ∙ h.reads line past begun false more;
  ended = at;
  ends = ends;
}

negative_short : (bytes : List ℕ) (n v end : ℕ) → HasDigits bytes n v → n < length bytes → (n ≡ 0 → ⊥) → slice_index bytes n ≡ end → IsTrue (is_blank end || (end == 10)) →
    IsShortNumber (45 ∷ bytes) (Digits true v) (suc n) end
negative_short bytes zero v end h lt some at ends = absurd (some refl)
negative_short [] (suc n) v end h lt some at ends = absurd (omega (arith, lt))
negative_short (x ∷ bytes) (suc n) v end h lt some at ends = record {
  within = omega (arith, lt);
  reads = λ line past begun in_line more. negative_begins line past begun x in_line (take n bytes ++ more) (h.digits 0 (omega arith)) ∙ h.reads line past begun true more;
  ended = at;
  ends = ends;
}

signed : (bytes : List ℕ) (negative : Bool) (n v len end : ℕ) → (slice_index bytes 0 == 45) ≡ negative → 11 ≤ length bytes → n ≤ 9 → (n ≡ 0 → ⊥) →
    HasDigits (take (length bytes - (if negative then 1 else 0)) (drop (if negative then 1 else 0) bytes)) n v →
    len ≡ (if negative then 1 else 0) + n → slice_index bytes len ≡ end → IsTrue (is_blank end || (end == 10)) → IsShortNumber bytes (Digits negative v) len end
signed bytes false n v len end p many few some h is at ends =
    let same : len ≡ n = omega (arith, is) in
    plain_short bytes len v end (subst (λ k. HasDigits bytes k v) (sym same) (subst (λ l. HasDigits l n v) (take_all (length bytes - 0) bytes (omega arith)) h))
    (omega (arith, many, few, same)) (λ z. some (sym same ∙ z)) at ends
signed [] true n v len end p many few some h is at ends = absurd (omega (arith, many))
signed (x ∷ bytes) true n v len end p many few some h is at ends =
    let same : len ≡ suc n = omega (arith, is) in
    subst (λ k. IsShortNumber (x ∷ bytes) (Digits true v) k end) (sym same) (subst (λ y. IsShortNumber (y ∷ bytes) (Digits true v) (suc n) end) (sym (eqb-true x 45 p))
    (negative_short bytes n v end (subst (λ l. HasDigits l n v) (take_all (length (x ∷ bytes) - 1) bytes (omega arith)) h) (omega (arith, many, few)) some
    (ap (λ k. slice_index (x ∷ bytes) k) (sym same) ∙ at) ends))

pub short : (bytes : List ℕ) (negative : Bool) (sign n v end : ℕ) → (slice_index bytes 0 == 45) ≡ negative → sign ≡ (if negative then 1 else 0) →
    11 ≤ length bytes → n ≤ 9 → (n ≡ 0 → ⊥) → HasDigits (take (length bytes - sign) (drop sign bytes)) n v →
    slice_index bytes (sign + n) ≡ end → IsTrue (is_blank end || (end == 10)) → IsShortNumber bytes (Digits negative v) (sign + n) end
short bytes negative sign n v end p is many few some h at ends =
    signed bytes negative n v (sign + n) end p many few some (subst (λ k. HasDigits (take (length bytes - k) (drop k bytes)) n v) is h) (ap (λ k. k + n) is) at ends

-- the bytes that a short number and its end take lead to its end
pub short_leads : {a b : Known} (ahead front : List ℕ) (number : Number) (len end : ℕ) (line : ℕ) (past : Past) (begun : List ℕ) (in_line : Bool) →
    front ≡ ahead → Consumes a b (take (len + 1) ahead) → IsShortNumber front number len end →
    Leads a b (next_at (At line past begun (place_of in_line))) (λ more. next_at (At line past begun (InNumber number)) (end ∷ more))
short_leads ahead front number len end line past begun in_line same taken h = record {
  taken = take (len + 1) front;
  consumed = rw same taken;
  same = λ more.
      ap (next_at (At line past begun (place_of in_line))) (ap (λ (l : List ℕ). l ++ more) (take_more front len 0 h.within) ∙ append_assoc (take len front) (get_or front len 0 ∷ []) more) ∙
      h.reads line past begun in_line (get_or front len 0 ∷ more) ∙ ap (λ x. next_at (At line past begun (InNumber number)) (x ∷ more)) h.ended;
}
