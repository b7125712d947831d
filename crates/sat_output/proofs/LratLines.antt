-- What is written of LRAT lines is read again.
use Rattle.std.proofs.Common.{◌≡◌, ℕ, ◌^◌, ◌<◌, ◌≤◌, true, false, List, [], ◌∷◌, ◌++◌, Some, Ok, refl, ap, append_assoc, arith}
use Rattle.std.specs.Prelude.{All, codes, decimal, map}
use Rattle.std.proofs.lemmas.Bool.{le-ltb, lt-ltb, ne_eqb}
use Rattle.std.proofs.lemmas.List.Elements.{All-append, All-cons, All-head, All-tail}
use Rattle.lrat_rules.specs.Lines as rules
use Rattle.lrat_rules.specs.Lines.{Line, along, against, adds, deletes}
use Rattle.lrat_text.specs.declared.fault.LineKind.{LineKind}
use Rattle.lrat_text.specs.declared.line.Hint.{Hint}
use Rattle.lrat_text.specs.declared.line.Hint.TheVariants.{Along, Against}
use Rattle.lrat_text.specs.Grammar.{after_id, clause_at, hint_of, is_comment, says}
use Rattle.lrat_text.specs.Items.{hint_said, id_said, items_at, lit_said}
use Rattle.lrat_text.specs.Numbers.{number_of, signed}
use Rattle.lrat_text.specs.Texts.{Ended, lines_from, short_before}
use Rattle.sat_formula.specs.Lines.{lines_of}
use Rattle.sat_formula.specs.Outcome.{next_line}
use Rattle.sat_formula.specs.Vars.{lit_code}
use Rattle.written_numbers.specs.Words.{IsCode, IsId, literal_text}
use Rattle.written_numbers.proofs.SpacedWords.{lines_of-line_text, words_of-line_text}
use Rattle.written_numbers.proofs.WrittenWords.{IsWord, decimal_is, decimal_is_word, digits_value, literal_by, literal_is_word, literal_no_d, signed_is_word, words_are, zero_is_word}
use Rattle.sat_output.specs.LratTexts.{HasFittingNumbers, IsHint, LinesAreRead, hint_text, last_after, lines_text, numbered, words_before_end}

-- ---- numbers

-- digits say their value
number_read : (n : ℕ) → n < 2 ^ 64 → number_of (decimal n) ≡ signed false (Some n)
number_read n fits =
    let those = decimal_is n fits in
    rw (those.is, ne_eqb those.first 45 (λ q. omega arith), digits_value n (decimal n) those, lt-ltb n (2 ^ 64) fits) refl

signed_read : (n : ℕ) → n < 2 ^ 64 → number_of (45 ∷ decimal n) ≡ signed true (Some n)
signed_read n fits = let those = decimal_is n fits in rw (those.is, digits_value n (decimal n) those, lt-ltb n (2 ^ 64) fits) refl

no_comment : (n : ℕ) → n < 2 ^ 64 → is_comment (decimal n) ≡ false
no_comment n fits = let those = decimal_is n fits in rw (those.is, ne_eqb 99 those.first (λ q. omega arith)) refl

-- ---- literals, hints and ids

literal_read : (l : ℕ) → IsCode l → lit_said (number_of (literal_text l)) ≡ Ok (Some l)
literal_read l fits = literal_by (λ m text. lit_said (number_of text) ≡ Ok (Some m)) both l fits
  where
    both : (v : ℕ) → 0 < v → v ≤ 2 ^ 28 →
        (lit_said (number_of (45 ∷ decimal v)) ≡ Ok (Some (lit_code v true))) × (lit_said (number_of (decimal v)) ≡ Ok (Some (lit_code v false)))
    both v some most =
        let other = ne_eqb v 0 (λ q. omega arith) in
        let low = le-ltb (2 ^ 28) v most in
        (rw (signed_read v (omega arith), other, other, low) refl, rw (number_read v (omega arith), other, low) refl)

-- the hint of the code that the rules know so
abbrev pub hint_back : rules.Hint → Hint
hint_back (along id) = Along id
hint_back (against id) = Against id

pub hints_back : (hints : List rules.Hint) → map hint_of (map hint_back hints) ≡ hints
hints_back [] = refl
hints_back (along id ∷ hints) = ap (λ hs. along id ∷ hs) (hints_back hints)
hints_back (against id ∷ hints) = ap (λ hs. against id ∷ hs) (hints_back hints)

hint_is_word : (h : rules.Hint) → IsHint h → IsWord (hint_text h)
hint_is_word (along id) fits = decimal_is_word id fits.1
hint_is_word (against id) fits = signed_is_word id fits.1

hint_read : (h : rules.Hint) → IsHint h → hint_said (number_of (hint_text h)) ≡ Ok (Some (hint_back h))
hint_read (along id) fits = rw (number_read id fits.1, ne_eqb id 0 (λ q. omega arith)) refl
hint_read (against id) fits = let other = ne_eqb id 0 (λ q. omega arith) in rw (signed_read id fits.1, other, other) refl

id_read : (id : ℕ) → IsId id → id_said (number_of (decimal id)) ≡ Ok (Some id)
id_read id fits = rw (number_read id fits.1, ne_eqb id 0 (λ q. omega arith)) refl

-- ---- lists

literals_read : (short : LineKind) (lits : List ℕ) (others : List (List ℕ)) → All IsCode lits → items_at lit_said short (map literal_text lits ++ codes "0" ∷ others) ≡ Ok (lits, others)
literals_read short [] others all = refl
literals_read short (l ∷ lits) others all =
    rw (literal_read l (All-head IsCode l lits all), literals_read short lits others (All-tail IsCode l lits all)) refl

hints_read : (short : LineKind) (hints : List rules.Hint) (others : List (List ℕ)) → All IsHint hints →
    items_at hint_said short (map hint_text hints ++ codes "0" ∷ others) ≡ Ok (map hint_back hints, others)
hints_read short [] others all = refl
hints_read short (h ∷ hints) others all =
    rw (hint_read h (All-head IsHint h hints all), hints_read short hints others (All-tail IsHint h hints all)) refl

ids_read : (short : LineKind) (ids : List ℕ) (others : List (List ℕ)) → All IsId ids → items_at id_said short (map decimal ids ++ codes "0" ∷ others) ≡ Ok (ids, others)
ids_read short [] others all = refl
ids_read short (id ∷ ids) others all = rw (id_read id (All-head IsId id ids all), ids_read short ids others (All-tail IsId id ids all)) refl

-- ---- lines

after_id-clause : (short : LineKind) (id : ℕ) (c : List ℕ) (others : List (List ℕ)) → 0 < id → All IsCode c →
    after_id short id (map literal_text c ++ codes "0" ∷ others) ≡ clause_at short id (map literal_text c ++ codes "0" ∷ others)
after_id-clause short id [] others some all = rw (ne_eqb id 0 (λ q. omega arith)) refl
after_id-clause short id (l ∷ lits) others some all =
    rw (literal_no_d l (All-head IsCode l lits all), ne_eqb id 0 (λ q. omega arith)) refl

-- the words of a line, with its last 0
line_said : (short : LineKind) (last : ℕ) (x : Line) → last < 2 ^ 64 → HasFittingNumbers x → says short (words_before_end last x ++ codes "0" ∷ []) ≡ Ok (Some x)
line_said short last (adds id c hints) low fit =
    let rest : List (List ℕ) = map hint_text hints ++ codes "0" ∷ [] in
    rw (
      no_comment id fit.0.1,
      number_read id fit.0.1,
      append_assoc (map literal_text c) (codes "0" ∷ map hint_text hints) (codes "0" ∷ []),
      after_id-clause short id c rest fit.0.0 fit.1,
      literals_read short c rest fit.1,
      hints_read short hints [] fit.2,
      hints_back hints,
    ) refl
line_said short last (deletes ids) low fit = rw (no_comment last low, number_read last low, ids_read short ids [] fit) refl

line_words : (last : ℕ) (x : Line) → last < 2 ^ 64 → HasFittingNumbers x → All IsWord (words_before_end last x)
line_words last (adds id c hints) low fit =
    let lits = words_are IsCode literal_text c literal_is_word fit.1 in
    let others = words_are IsHint hint_text hints hint_is_word fit.2 in
    All-cons IsWord _ _ (decimal_is_word id fit.0.1) (All-append IsWord _ _ lits (All-cons IsWord _ _ zero_is_word others))
line_words last (deletes ids) low fit =
    let letter : IsWord (codes "d") = record { some = refl; solid = refl } in
    let others = words_are IsId decimal ids (λ id is. decimal_is_word id is.1) fit in
    All-cons IsWord (decimal last) (codes "d" ∷ map decimal ids) (decimal_is_word last low) (All-cons IsWord (codes "d") (map decimal ids) letter others)

last_low : (last : ℕ) (x : Line) → last < 2 ^ 64 → HasFittingNumbers x → last_after last x < 2 ^ 64
last_low last (adds id c hints) low fit = fit.0.1
last_low last (deletes ids) low fit = low

lines_read : (n last : ℕ) (xs : List Line) → last < 2 ^ 64 → All HasFittingNumbers xs → lines_from n (lines_of (lines_text last xs)) ≡ (numbered n xs, Ended)
lines_read n last [] low fit = refl
lines_read n last (x ∷ xs) low fit =
    let this = All-head HasFittingNumbers x xs fit in
    let words = words_before_end last x in
    let are = line_words last x low this in
    let rest = lines_text (last_after last x) xs in
    rw (
      lines_of-line_text words rest are,
      words_of-line_text words are,
      line_said (short_before (lines_of rest)) last x low this,
      lines_read (next_line n) (last_after last x) xs (last_low last x low this) (All-tail HasFittingNumbers x xs fit),
    ) refl

pub lines_are_read : LinesAreRead
lines_are_read last xs low fit = lines_read 0 last xs low fit
