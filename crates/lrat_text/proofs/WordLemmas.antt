-- Words of a line, by the places of its blanks.
use Rattle.std.proofs.Common.{◌≡◌, ℕ, suc, ◌+◌, ◌-◌, ◌<◌, true, false, List, [], ◌∷◌, ◌++◌, length, get_or, take, drop, refl, sym, ap, ◌∙◌, arith, length-drop}
use Rattle.std.proofs.Common.{take-append-drop, drop-cons, append-nil, length-take}
use Rattle.std.proofs.lemmas.List.{take_all, drop-append-le, length-append, get_or-take, get_or_default, get_or_push, length_push}
use Rattle.std.proofs.lemmas.List.Splits.{slice_split_at}
use Rattle.std.proofs.lemmas.Bool.{false_from_ne_true}
use Rattle.std.proofs.lemmas.Bool.Decides.{nat_tests}
use Rattle.std.proofs.lemmas.List.Elements.{All-drop, filter-append}
use Rattle.std.specs.Prelude.{filter, All}
use Rattle.std.specs.List.{slice_split, onto_first}
use Rattle.sat_formula.specs.Bytes.{is_blank, is_lf}
use Rattle.sat_formula.specs.Lines.{has_bytes, words_of}
use Rattle.sat_formula.proofs.Lines.{front, slice_split-front}
use Rattle.lrat_text.specs.Bytes.{IsOpen, IsLine, ends_word, words_in}

-- ---- a line and its LF

open_first : (b : ℕ) (line : List ℕ) → IsOpen (b ∷ line) → is_lf b ≡ false
open_first b line is_open = is_open 0 0 (omega arith)

open_rest : (b : ℕ) (line : List ℕ) → IsOpen (b ∷ line) → IsOpen line
open_rest b line is_open = λ k d lt. is_open (suc k) d (omega (arith, lt))

pub line_some : (bytes : List ℕ) → IsLine bytes → 0 < length bytes
line_some bytes p = rw p.is (omega (arith, length-append p.line (10 ∷ [])))

pub line_rest : (bytes : List ℕ) (n : ℕ) → n < length bytes → IsLine bytes → IsLine (take (length bytes - n) (drop n bytes))
line_rest bytes n lt p = rw (take_all (length bytes - n) (drop n bytes) (omega (arith, length-drop n bytes))) (record {
  line = drop n p.line;
  is = ap (drop n) p.is ∙ drop-append-le n p.line (10 ∷ []) (omega (arith, lt, ap length p.is, length-append p.line (10 ∷ [])));
  is_open = All-drop (λ b. is_lf b ≡ false) n p.line p.is_open;
})

pub line_inside : (bytes : List ℕ) (n : ℕ) → IsLine bytes → n < length bytes → is_lf (get_or bytes n 0) ≡ false → n + 1 < length bytes
line_inside bytes n p lt other = grind (arith, p.is, length_push, get_or_push)

-- ---- words

pub words_in-end : (b : ℕ) (bytes : List ℕ) → ends_word b ≡ true → words_in (b ∷ bytes) ≡ words_in bytes
words_in-end b bytes e = rw e refl

-- a blank in front is passed over
pub words_in-drop : (bytes : List ℕ) → 0 < length bytes → is_blank (get_or bytes 0 0) ≡ true → words_in (drop 1 bytes) ≡ words_in bytes
words_in-drop [] some blank = absurd (omega arith)
words_in-drop (b ∷ bytes) some blank = rw blank refl

-- what follows a blank in front
pub record IsPassed (bytes rest : List ℕ) : Type 0 where
  pub line : IsLine rest
  pub words : words_in rest ≡ words_in bytes
  pub shorter : length rest < length bytes

pub blank_passed : (bytes : List ℕ) → IsLine bytes → is_blank (get_or bytes 0 0) ≡ true → IsPassed bytes (take (length bytes - 1) (drop 1 bytes))
blank_passed bytes p e =
    let some = line_some bytes p in
    let all = take_all (length bytes - 1) (drop 1 bytes) (omega (arith, length-drop 1 bytes)) in
    record {
      line = line_rest bytes 1 (line_inside bytes 0 p some (grind (arith, nat_tests, e))) p;
      words = ap words_in all ∙ words_in-drop bytes some e;
      shorter = omega (arith, ap (λ (bs : List ℕ). length bs) all, length-drop 1 bytes, some);
    }

-- the word in front extends to the first blank or the LF
pub words_in-first : (bytes : List ℕ) (n : ℕ) → 0 < n → n < length bytes → ((k : ℕ) → k < n → ends_word (get_or bytes k 0) ≡ false) → ends_word (get_or bytes n 0) ≡ true
    → words_in bytes ≡ take n bytes ∷ words_in (drop n bytes)
words_in-first (b ∷ bytes) (suc n) some lt h e =
    let rest = drop (suc n) bytes in
    let seam : b ∷ bytes ≡ take (suc n) (b ∷ bytes) ++ get_or bytes n 0 ∷ rest =
    ap (λ l. b ∷ l) (sym (take-append-drop n bytes) ∙ ap (λ l. take n bytes ++ l) (drop-cons bytes n 0 (omega (arith, lt)))) in
    let word : All (λ x. ends_word x ≡ false) (take (suc n) (b ∷ bytes)) = λ k d below. grind (arith, h k, get_or-take, get_or_default, length-take, below) in
    ap words_in seam ∙ ap (filter has_bytes) (slice_split_at ends_word (take (suc n) (b ∷ bytes)) (get_or bytes n 0) rest word e)
    ∙ ap (λ ws. (b ∷ take n bytes) ∷ ws) (sym (words_in-end (get_or bytes n 0) rest e) ∙ ap words_in (sym (drop-cons bytes n 0 (omega (arith, lt)))))
words_in-first bytes n some lt h e = absurd (omega (arith, some, lt))

pub words_in-word : (bytes word : List ℕ) (n : ℕ) → words_in word ≡ words_in bytes → 0 < n → n < length word → ((k : ℕ) → k < n → ends_word (get_or word k 0) ≡ false)
    → ends_word (get_or word n 0) ≡ true → words_in bytes ≡ take n word ∷ words_in (take (length word - n) (drop n word))
words_in-word bytes word n same some lt h e =
    sym same ∙ words_in-first word n some lt h e
    ∙ ap (λ (rest : List ℕ). take n word ∷ words_in rest) (sym (take_all (length word - n) (drop n word) (omega (arith, length-drop n word))))

-- an LF that is no blank is alone
lf_alone : (bytes line : List ℕ) → bytes ≡ line ++ 10 ∷ [] → IsOpen line → is_lf (get_or bytes 0 0) ≡ true → bytes ≡ 10 ∷ []
lf_alone bytes [] e is_open lf = e
lf_alone bytes (b ∷ line) e is_open lf = let first = rw e at lf in let other = open_first b line is_open in absurd cc

-- a line without a blank in front has no word where an end of a word is there
pub no_words : (bytes : List ℕ) → IsLine bytes → is_blank (get_or bytes 0 0) ≡ false → ends_word (get_or bytes 0 0) ≡ true → words_in bytes ≡ []
no_words bytes p blank e = ap words_in (lf_alone bytes p.line p.is p.is_open (rw blank at e))

-- ---- the first byte of the first word

pub begins : (bytes : List ℕ) → IsLine bytes → is_blank (get_or bytes 0 0) ≡ false → (word : List ℕ) (later : List (List ℕ)) → words_in bytes ≡ word ∷ later
    → (more : List ℕ) × (word ≡ get_or bytes 0 0 ∷ more)
begins [] p blank word later words = absurd cc
begins (b ∷ bytes) p blank word later words =
    let inner : ends_word b ≡ false = false_from_ne_true (ends_word b) (λ e. let none = no_words (b ∷ bytes) p blank e in absurd cc) in
    let first = rw (inner, slice_split-front ends_word bytes) at words in
    (front ends_word bytes, cc)

-- ---- the words of the line without its LF

onto_more : (b : ℕ) (bytes : List ℕ) (more : List (List ℕ)) → onto_first b (slice_split is_blank bytes ++ more) ≡ onto_first b (slice_split is_blank bytes) ++ more
onto_more b bytes more = rw (slice_split-front is_blank bytes) refl

split-line : (line : List ℕ) → IsOpen line → slice_split ends_word (line ++ 10 ∷ []) ≡ slice_split is_blank line ++ [] ∷ []
split-line [] is_open = refl
split-line (b ∷ line) is_open = grind (arith, split-line line (open_rest b line is_open), open_first b line is_open, onto_more b line ([] ∷ []))

pub words_in-line : (bytes : List ℕ) (p : IsLine bytes) → words_in bytes ≡ words_of p.line
words_in-line bytes p = ap words_in p.is ∙ ap (filter has_bytes) (split-line p.line p.is_open) ∙ simp (filter-append, append-nil)
