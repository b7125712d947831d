-- The number in front of a line.
use Rattle.std.proofs.Common.{◌≡◌, ℕ, zero, suc, ◌+◌, ◌-◌, ◌*◌, ◌^◌, ◌<◌, true, false, List, [], ◌∷◌, ◌++◌, length}
use Rattle.std.proofs.Common.{get_or, take, drop, Some, refl, sym, ap, ◌∙◌, arith, length-drop, subst}
use Rattle.std.proofs.Math.Nat.{pow-le-pow_right}
use Rattle.std.proofs.lemmas.Grind.{pow_more}
use Rattle.std.specs.Prelude.{slice_index}
use Rattle.std.proofs.lemmas.Bool.Decides.{nat_tests}
use Rattle.std.proofs.lemmas.List.{drop_more, take_all, take_more}
use Rattle.sat_formula.specs.Bytes.{is_digit}
use Rattle.sat_formula.specs.Lines.{value_from}
use Rattle.sat_formula.proofs.ShortNumbers.{digit_small, no_minus}
use Rattle.lrat_text.specs.Bytes.{IsLine, ends_word, words_in}
use Rattle.lrat_text.specs.declared.number.Number.TheVariants.{Exact}
use Rattle.lrat_text.specs.FirstNumbers.{HasDigits, IsDigitsWord, IsFirst}
use Rattle.lrat_text.specs.Numbers.{number_of}
use Rattle.lrat_text.proofs.NumberLemmas.{judged-exact}
use Rattle.lrat_text.proofs.WordLemmas.{line_some, line_inside, line_rest, words_in-end, words_in-first}

-- ---- digits

no_end : (b : ℕ) → is_digit b ≡ true → ends_word b ≡ false
no_end b e = grind (arith, nat_tests)

value_from-more : (v w d : ℕ) (ds : List ℕ) → value_from v ds ≡ Some w → is_digit d ≡ true → value_from v (ds ++ d ∷ []) ≡ Some (w * 10 + (d - 48))
value_from-more v w d [] e f = grind arith
value_from-more v w d (x ∷ ds) e f = grind (arith, value_from-more (v * 10 + (x - 48)) w d ds)

-- the value of some digits stays below a power of ten
pub small_more : (n v d : ℕ) → v < 10 ^ n → is_digit d ≡ true → v * 10 + (d - 48) < 10 ^ (n + 1)
small_more n v d small e = omega (arith, digit_small d e, pow_more 10 n)

pub digit_fits_after : (n v d : ℕ) → n < 18 → v < 10 ^ n → is_digit d ≡ true → v * 10 + (d - 48) < 2 ^ 64
digit_fits_after n v d few small e = omega (arith, digit_small d e, pow-le-pow_right {n = 10} (omega arith) {i = n} {j = 17} (omega (arith, few)))

-- none yet, and one more
pub digits_none : (bytes : List ℕ) → IsLine bytes → HasDigits bytes 0 0
digits_none bytes p = record { within = line_some bytes p; digits = λ k lt. absurd (omega (arith, lt)); value = refl; fits = omega arith }

pub digits_more : (bytes : List ℕ) (n v : ℕ) → IsLine bytes → HasDigits bytes n v → n < 18 → v < 10 ^ n → is_digit (slice_index bytes n) ≡ true →
    HasDigits bytes (n + 1) (v * 10 + (slice_index bytes n - 48))
digits_more bytes n v p h few small e = record {
  within = line_inside bytes n p h.within (grind (arith, nat_tests, e));
  digits = λ k below. grind (arith, h.digits k, e, below);
  value = rw (take_more bytes n 0 h.within) (value_from-more 0 v (slice_index bytes n) (take n bytes) h.value e);
  fits = digit_fits_after n v (slice_index bytes n) few small e;
}

-- a word of digits that a space ends
pub space_after : (bytes : List ℕ) (n v : ℕ) → IsLine bytes → HasDigits bytes n v → 0 < n → slice_index bytes n ≡ 32 → IsDigitsWord bytes v (take (length bytes - (n + 1)) (drop (n + 1) bytes))
space_after bytes n v p h some e =
    let more = line_inside bytes n p h.within (rw e refl) in
    let all = take_all (length bytes - (n + 1)) (drop (n + 1) bytes) (omega (arith, length-drop (n + 1) bytes)) in
    record {
      len = n;
      digits = h;
      some = some;
      end = rw e refl;
      words = ap words_in all ∙ sym (words_in-end 32 (drop (n + 1) bytes) refl) ∙ ap (λ (b : ℕ). words_in (b ∷ drop (n + 1) bytes)) (sym e) ∙ ap words_in (sym (drop_more bytes n 0 h.within));
      line = line_rest bytes (n + 1) more p;
      shorter = omega (arith, ap (λ (bs : List ℕ). length bs) all, length-drop (n + 1) bytes, h.within);
    }

-- ---- the number in front

plain_says : (bytes : List ℕ) (n v : ℕ) → HasDigits bytes n v → 0 < n → v < 2 ^ 64 → number_of (take n bytes) ≡ Exact false v
plain_says (b ∷ bytes) (suc n) v h some fits = rw (no_minus b (h.digits 0 (omega arith)), h.value) (judged-exact false v fits (λ e. absurd cc))
plain_says bytes n v h some fits = let lt = h.within in absurd (omega (arith, lt, some))

pub first_plain : (bytes rest : List ℕ) (v : ℕ) → IsDigitsWord bytes v rest → IsFirst (words_in bytes) (Exact false v) (words_in rest)
first_plain bytes rest v w = record {
  word = take w.len bytes;
  words = words_in-first bytes w.len w.some w.digits.within (λ k lt. no_end (slice_index bytes k) (w.digits.digits k lt)) w.end ∙ ap (λ ws. take w.len bytes ∷ ws) (sym w.words);
  says = plain_says bytes w.len v w.digits w.some w.digits.fits;
}

negative_says : (bytes : List ℕ) (n v : ℕ) → HasDigits bytes n v → 0 < n → v < 2 ^ 64 → (v ≡ 0 → ⊥) → number_of (45 ∷ take n bytes) ≡ Exact true v
negative_says (b ∷ bytes) (suc n) v h some fits other = rw h.value (judged-exact true v fits (λ e. other))
negative_says bytes n v h some fits other = let lt = h.within in absurd (omega (arith, lt, some))

pub first_negative : (bytes rest : List ℕ) (v : ℕ) → IsDigitsWord bytes v rest → (v ≡ 0 → ⊥) → IsFirst (words_in (45 ∷ bytes)) (Exact true v) (words_in rest)
first_negative bytes rest v w other = record {
  word = 45 ∷ take w.len bytes;
  words = words_in-first (45 ∷ bytes) (suc w.len) (omega arith) (let lt = w.digits.within in omega (arith, lt)) free w.end ∙
      ap (λ ws. (45 ∷ take w.len bytes) ∷ ws) (sym w.words);
  says = negative_says bytes w.len v w.digits w.some w.digits.fits other;
}
  where
    free : (k : ℕ) → k < suc w.len → ends_word (get_or (45 ∷ bytes) k 0) ≡ false
    free zero lt = refl
    free (suc k) lt = no_end (slice_index bytes k) (w.digits.digits k (omega (arith, lt)))

-- the digits after a `-`
pub minus_line : (bytes : List ℕ) → IsLine bytes → get_or bytes 0 0 ≡ 45 → IsLine (take (length bytes - 1) (drop 1 bytes))
minus_line bytes p e = line_rest bytes 1 (line_inside bytes 0 p (line_some bytes p) (rw e refl)) p

pub first_after_minus : (bytes rest : List ℕ) (v : ℕ) → 0 < length bytes → get_or bytes 0 0 ≡ 45 → IsDigitsWord (take (length bytes - 1) (drop 1 bytes)) v rest → (v ≡ 0 → ⊥) →
    IsFirst (words_in bytes) (Exact true v) (words_in rest)
first_after_minus [] rest v some e w other = absurd (omega (arith, some))
first_after_minus (b ∷ bytes) rest v some e w other =
    rw e (first_negative bytes rest v (subst (λ (ds : List ℕ). IsDigitsWord ds v rest) (take_all (length (b ∷ bytes) - 1) bytes (omega arith)) w) other)
