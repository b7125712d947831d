-- What is written of a line is read again.
use Rattle.std.proofs.Common.{◌≡◌, ℕ, ◌^◌, ◌<◌, ◌≤◌, true, false, List, [], ◌∷◌, ◌++◌, Some, refl, append_assoc, arith}
use Rattle.std.specs.Prelude.{All, codes, decimal, map}
use Rattle.std.proofs.lemmas.Bool.{le-ltb, lt-ltb, ne_eqb}
use Rattle.std.proofs.lemmas.List.Elements.{All-append, All-cons, All-head, All-tail}
use Rattle.sat_rules.specs.HintLines.{HintLine, adds_clause, deletes_clauses}
use Rattle.sat_formula.specs.Vars.{lit_code}
use Rattle.hint_rules.specs.Text.{clause_to_zero, clause_word, ids_to_end, is_comment, line_after}
use Rattle.hint_rules.specs.Text.{literal_word, number_of_word, on_clause, said, said_by}
use Rattle.written_numbers.specs.Words.{IsCode, IsId, literal_text}
use Rattle.written_numbers.proofs.SpacedWords.{words_of-line_text}
use Rattle.written_numbers.proofs.WrittenWords.{IsWord, decimal_is, decimal_is_word, digits_value, literal_by, literal_is_word, literal_no_d, words_are, zero_is_word}
use Rattle.sat_hints.specs.WrittenText.{HasFittingNumbers, WrittenIsRead, first_number, further_words, text_of}

-- ---- numbers

read_number : (n : ℕ) → n < 2 ^ 64 → number_of_word (decimal n) ≡ Some n
read_number n fits = let those = decimal_is n fits in rw (those.is, digits_value n (decimal n) those, lt-ltb n (2 ^ 64) fits) refl

no_comment : (n : ℕ) → n < 2 ^ 64 → is_comment (decimal n) ≡ false
no_comment n fits = let those = decimal_is n fits in rw (those.is, ne_eqb those.first 99 (λ q. omega arith)) refl

-- ---- literals

literal_read : (l : ℕ) → IsCode l → clause_word (literal_text l) ≡ literal_word l
literal_read l fits = literal_by (λ m text. clause_word text ≡ literal_word m) both l fits
  where
    both : (v : ℕ) → 0 < v → v ≤ 2 ^ 28 → (clause_word (45 ∷ decimal v) ≡ literal_word (lit_code v true)) × (clause_word (decimal v) ≡ literal_word (lit_code v false))
    both v some most =
        let those = decimal_is v (omega arith) in
        let value = digits_value v (decimal v) those in
        let fits_64 = lt-ltb v (2 ^ 64) (omega arith) in
        let other = ne_eqb v 0 (λ q. omega arith) in
        let low = le-ltb (2 ^ 28) v most in
        (rw (those.is, value, fits_64, other, low) refl, rw (those.is, ne_eqb those.first 45 (λ q. omega arith), value, fits_64, other, low) refl)

-- ---- lists

read_ids : (ids : List ℕ) → All IsId ids → ids_to_end (map decimal ids ++ codes "0" ∷ []) ≡ Some ids
read_ids [] all = refl
read_ids (id ∷ ids) all =
    let this = All-head IsId id ids all in
    rw (read_number id this.1, read_ids ids (All-tail IsId id ids all), ne_eqb id 0 (λ q. omega arith)) refl

read_clause : (lits : List ℕ) (others : List (List ℕ)) → All IsCode lits → clause_to_zero (map literal_text lits ++ codes "0" ∷ others) ≡ Some (lits, others)
read_clause [] others all = refl
read_clause (l ∷ lits) others all =
    rw (literal_read l (All-head IsCode l lits all), read_clause lits others (All-tail IsCode l lits all)) refl

ids_are_words : (ids : List ℕ) → All IsId ids → All IsWord (map decimal ids)
ids_are_words ids all = words_are IsId decimal ids (λ id is. decimal_is_word id is.1) all

-- ---- lines

line_after-clause : (id : ℕ) (lits : List ℕ) (others : List (List ℕ)) → 0 < id → All IsCode lits
    → line_after id (map literal_text lits ++ codes "0" ∷ others) ≡ on_clause id (clause_to_zero (map literal_text lits ++ codes "0" ∷ others))
line_after-clause id [] others some all = rw (ne_eqb id 0 (λ q. omega arith)) refl
line_after-clause id (l ∷ lits) others some all =
    rw (literal_no_d l (All-head IsCode l lits all), ne_eqb id 0 (λ q. omega arith)) refl

further_are_words : (x : HintLine) → HasFittingNumbers x → All IsWord (further_words x)
further_are_words (adds_clause id c hints) fit =
    All-append IsWord (map literal_text c) (codes "0" ∷ map decimal hints) (words_are IsCode literal_text c literal_is_word fit.1)
    (All-cons IsWord (codes "0") (map decimal hints) zero_is_word (ids_are_words hints fit.2))
further_are_words (deletes_clauses number ids) fit =
    let letter : IsWord (codes "d") = record { some = refl; solid = refl } in
    All-cons IsWord (codes "d") (map decimal ids) letter (ids_are_words ids fit.1)

first_fits : (x : HintLine) → HasFittingNumbers x → first_number x < 2 ^ 64
first_fits (adds_clause id c hints) fit = fit.0.1
first_fits (deletes_clauses number ids) fit = fit.0

-- before the last 0
pub are_words : (x : HintLine) → HasFittingNumbers x → All IsWord (decimal (first_number x) ∷ further_words x)
are_words x fit = All-cons IsWord (decimal (first_number x)) (further_words x) (decimal_is_word (first_number x) (first_fits x fit)) (further_are_words x fit)

read_words : (x : HintLine) → HasFittingNumbers x → said_by (text_of x) ≡ said (line_after (first_number x) (further_words x ++ codes "0" ∷ []))
read_words x fit =
    let n : ℕ = first_number x in
    let fits = first_fits x fit in
    rw (words_of-line_text (decimal n ∷ further_words x) (are_words x fit), no_comment n fits, read_number n fits) refl

pub written_is_read : WrittenIsRead
written_is_read (adds_clause id c hints) fit =
    let last : List (List ℕ) = map decimal hints ++ codes "0" ∷ [] in
    rw (
      read_words (adds_clause id c hints) fit,
      append_assoc (map literal_text c) (codes "0" ∷ map decimal hints) (codes "0" ∷ []),
      line_after-clause id c last fit.0.0 fit.1,
      read_clause c last fit.1,
      read_ids hints fit.2,
    ) refl
written_is_read (deletes_clauses number ids) fit = rw (read_words (deletes_clauses number ids) fit, read_ids ids fit.1) refl
