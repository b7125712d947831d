-- Words of a line that is written, and the digits of a number among them.
--     IsWord w      bytes, all above the space
--     AreDigitsOf n ds      the digits of a number, and their value
--     literal_by      what holds of a number after a `-` and of a number alone, holds of a literal's text
use Rattle.std.proofs.Common.{◌≡◌, ℕ, suc, ◌+◌, ◌-◌, ◌*◌, ◌/◌, ◌%◌, ◌^◌, ◌<◌, ◌≤◌, true, false, List, [], ◌∷◌, ◌++◌, Some, refl, sym, ap, ◌∙◌, append_assoc, append-nil, inl, inr, arith}
use Rattle.std.specs.Prelude.{All, codes, decimal, map, nat_le}
use Rattle.std.specs.List.{list_all}
use Rattle.std.specs.Str.{bytes_eq}
use Rattle.std.proofs.lemmas.Bool.{cases_Bool, eqb-false, eqb-true, le-leb, leb-true, ne_eqb}
use Rattle.std.proofs.lemmas.Fmt.{decimal_by_steps}
use Rattle.std.proofs.lemmas.List.Elements.{All-map, All-weaker}
use Rattle.std.proofs.lemmas.List.Folds.{list_all-append}
use Rattle.std.proofs.lemmas.List.Splits.{slice_split_at, slice_split_none}
use Rattle.std.proofs.lemmas.List.Sums.{AllPass-from_list_all, list_all-from_AllPass}
use Rattle.sat_rules.specs.Clauses.{is_negative, var_of}
use Rattle.sat_formula.specs.Bytes.{is_blank, is_digit, is_lf}
use Rattle.sat_formula.specs.Lines.{has_bytes, lines_of, value_from, words_of}
use Rattle.sat_formula.specs.Vars.{lit_code}
use Rattle.written_numbers.specs.Words.{IsCode, literal_text}

-- ---- words

-- bytes, each above the space: neither a blank nor an LF is among them
pub record IsWord (word : List ℕ) : Type 0 where
  pub some : has_bytes word ≡ true
  pub solid : list_all (nat_le 33) word ≡ true

no_blank : (b : ℕ) → nat_le 33 b ≡ true → is_blank b ≡ false
no_blank b e = let above = leb-true 33 b e in rw (ne_eqb b 32 (λ q. omega arith), ne_eqb b 9 (λ q. omega arith), ne_eqb b 13 (λ q. omega arith)) refl

no_lf : (b : ℕ) → nat_le 32 b ≡ true → is_lf b ≡ false
no_lf b e = let above = leb-true 32 b e in ne_eqb b 10 (λ q. omega arith)

no_blanks : (word : List ℕ) → IsWord word → All (λ b. is_blank b ≡ false) word
no_blanks word is = All-weaker _ _ no_blank word (AllPass-from_list_all (nat_le 33) word is.solid)

pub words_of-word : (word rest : List ℕ) → IsWord word → words_of (word ++ 32 ∷ rest) ≡ word ∷ words_of rest
words_of-word word rest is = rw (slice_split_at is_blank word 32 rest (no_blanks word is) refl, is.some) refl

pub words_of-last : (word : List ℕ) → IsWord word → words_of word ≡ word ∷ []
words_of-last word is = rw (slice_split_none is_blank word (no_blanks word is), is.some) refl

pub word_in_line : (word : List ℕ) → IsWord word → list_all (nat_le 32) word ≡ true
word_in_line word is = list_all-from_AllPass (nat_le 32) word (All-weaker _ _ less word (AllPass-from_list_all (nat_le 33) word is.solid))
  where
    less : (b : ℕ) → nat_le 33 b ≡ true → nat_le 32 b ≡ true
    less b e = let above = leb-true 33 b e in le-leb 32 b (omega arith)

-- words of items that fit
pub words_are : {A : Type 0} (P : A → Type 0) (text : A → List ℕ) (xs : List A) → ((x : A) → P x → IsWord (text x)) → All P xs → All IsWord (map text xs)
words_are P text xs each all = All-map IsWord text xs (All-weaker P (λ x. IsWord (text x)) each xs all)

pub zero_is_word : IsWord (codes "0")
zero_is_word = record { some = refl; solid = refl }

-- a line and its LF, before other lines
pub lines_of-line : (line text : List ℕ) → list_all (nat_le 32) line ≡ true → lines_of (line ++ 10 ∷ text) ≡ line ∷ lines_of text
lines_of-line line text in_line = slice_split_at is_lf line 10 text (All-weaker _ _ no_lf line (AllPass-from_list_all (nat_le 32) line in_line)) refl

-- ---- numbers

-- one or more digits of this value; their value is known before any bytes after them
pub record AreDigitsOf (n : ℕ) (digits : List ℕ) : Type 0 where
  pub first : ℕ
  pub others : List ℕ
  pub is : digits ≡ first ∷ others
  pub low : 48 ≤ first
  pub high : first ≤ 57
  pub all : list_all is_digit digits ≡ true
  pub solid : list_all (nat_le 33) digits ≡ true
  pub value : (more : List ℕ) → value_from 0 (digits ++ more) ≡ value_from n more

one_digit : (n : ℕ) → n < 10 → AreDigitsOf n ((48 + n) ∷ [])
one_digit n small =
    let value : 0 * 10 + (48 + n - 48) ≡ n = omega arith in
    let above = le-leb 48 (48 + n) (omega arith) in
    let below = le-leb (48 + n) 57 (omega arith) in
    record {
      first = 48 + n;
      others = [];
      is = refl;
      low = omega arith;
      high = omega arith;
      all = rw (above, below) refl;
      solid = rw (le-leb 33 (48 + n) (omega arith)) refl;
      value = λ more. rw (above, below, value) refl;
    }

more_digits : (n : ℕ) (digits : List ℕ) → 10 ≤ n → AreDigitsOf (n / 10) digits → AreDigitsOf n (digits ++ (48 + n % 10) ∷ [])
more_digits n digits ten those =
    let value : n / 10 * 10 + (48 + n % 10 - 48) ≡ n = omega arith in
    let above = le-leb 48 (48 + n % 10) (omega arith) in
    let below = le-leb (48 + n % 10) 57 (omega arith) in
    record {
      first = those.first;
      others = those.others ++ (48 + n % 10) ∷ [];
      is = ap (λ ds. ds ++ (48 + n % 10) ∷ []) those.is;
      low = those.low;
      high = those.high;
      all = rw (list_all-append, those.all, above, below) refl;
      solid = rw (list_all-append, those.solid, le-leb 33 (48 + n % 10) (omega arith)) refl;
      value = λ more. rw (append_assoc, those.value, above, below, value) refl;
    }

pub decimal_is : (n : ℕ) → n < 2 ^ 64 → AreDigitsOf n (decimal n)
decimal_is n fits = decimal_by_steps AreDigitsOf one_digit more_digits n fits

pub decimal_is_word : (n : ℕ) → n < 2 ^ 64 → IsWord (decimal n)
decimal_is_word n fits = let those = decimal_is n fits in record { some = rw those.is refl; solid = those.solid }

-- digits after a sign
pub signed_is_word : (n : ℕ) → n < 2 ^ 64 → IsWord (45 ∷ decimal n)
signed_is_word n fits = record { some = refl; solid = (decimal_is n fits).solid }

-- the first digit and the others have the value
pub digits_value : (n : ℕ) (digits : List ℕ) (those : AreDigitsOf n digits) → value_from 0 (those.first ∷ those.others) ≡ Some n
digits_value n digits those = ap (value_from 0) (sym those.is ∙ sym (append-nil digits)) ∙ those.value []

-- ---- literals

-- what holds of a number after a `-`, and of a number alone, holds of a literal's text
pub literal_by : (P : ℕ → List ℕ → Type 0) → ((v : ℕ) → 0 < v → v ≤ 2 ^ 28 → P (lit_code v true) (45 ∷ decimal v) × P (lit_code v false) (decimal v)) →
    (l : ℕ) → IsCode l → P l (literal_text l)
literal_by P both l fits =
    let v : ℕ = suc (var_of l) in
    let forms = both v (omega arith) (omega arith) in
    elim (cases_Bool (is_negative l)) [
      | inl negative ↦ let odd = eqb-true (l % 2) 1 negative in let code : lit_code v true ≡ l = omega arith in rw negative (rw code at forms.0)
      | inr positive ↦ let even = eqb-false (l % 2) 1 positive in let code : lit_code v false ≡ l = omega arith in rw positive (rw code at forms.1)
    ]

pub literal_is_word : (l : ℕ) → IsCode l → IsWord (literal_text l)
literal_is_word l fits = literal_by (λ m text. IsWord text) (λ v some most. (signed_is_word v (omega arith), decimal_is_word v (omega arith))) l fits

-- it is no d
pub literal_no_d : (l : ℕ) → IsCode l → bytes_eq (literal_text l) (codes "d") ≡ false
literal_no_d l fits = literal_by (λ m text. bytes_eq text (codes "d") ≡ false) (λ v some most. (refl, plain v (omega arith))) l fits
  where
    plain : (v : ℕ) → v < 2 ^ 64 → bytes_eq (decimal v) (codes "d") ≡ false
    plain v low = let those = decimal_is v low in rw (those.is, ne_eqb those.first 100 (λ q. omega arith)) refl
