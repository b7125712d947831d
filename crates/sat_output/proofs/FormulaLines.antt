-- What is written of a formula is read again.
use Rattle.std.proofs.Common.{◌≡◌, ℕ, Bool, ◌+◌, ◌^◌, ◌<◌, ◌≤◌, true, false, List, [], ◌∷◌, ◌++◌, length, refl, sym, ap, append_assoc, append-nil, arith}
use Rattle.std.specs.Prelude.{All, codes, decimal, fold, map, max, nat_le, eqb}
use Rattle.std.specs.List.{list_all}
use Rattle.std.proofs.lemmas.Bool.{le-ltb, ne_eqb}
use Rattle.std.proofs.lemmas.List.Elements.{All-head, All-tail}
use Rattle.std.proofs.lemmas.List.Folds.{list_all-append}
use Rattle.sat_rules.specs.Clauses.{var_of}
use Rattle.sat_formula.specs.Formula.{var_count_of, vars_with}
use Rattle.sat_formula.specs.Lines.{TokenLine, is_header, kind_of_line, lines_from, lines_of, token_of_word, token_then, tokens_from, words_of}
use Rattle.sat_formula.specs.Outcome.{Ended, Outcome, next_line, with_clause}
use Rattle.sat_formula.specs.Vars.{lit_code}
use Rattle.written_numbers.specs.Words.{IsCode, literal_text, spaced_word}
use Rattle.written_numbers.proofs.SpacedWords.{first_of_spaced, lines_of-line_text, words_of-line_text}
use Rattle.written_numbers.proofs.WrittenWords.{IsWord, decimal_is, decimal_is_word, digits_value, lines_of-line, literal_by, literal_is_word, word_in_line, words_are, words_of-last, words_of-word}
use Rattle.sat_output.specs.FormulaTexts.{ClausesAreRead, FormulaIsRead, clause_text, clauses_text, header_text}

-- ---- literals

literal_read : (l line : ℕ) (begun : List ℕ) (next : List ℕ → Outcome) → IsCode l → token_then line begun (token_of_word (literal_text l)) next ≡ next (begun ++ l ∷ [])
literal_read l line begun next fits = literal_by (λ m text. token_then line begun (token_of_word text) next ≡ next (begun ++ m ∷ [])) both l fits
  where
    both : (v : ℕ) → 0 < v → v ≤ 2 ^ 28 → (token_then line begun (token_of_word (45 ∷ decimal v)) next ≡ next (begun ++ lit_code v true ∷ []))
        × (token_then line begun (token_of_word (decimal v)) next ≡ next (begun ++ lit_code v false ∷ []))
    both v some most =
        let those = decimal_is v (omega arith) in
        let value = digits_value v (decimal v) those in
        let other = ne_eqb v 0 (λ q. omega arith) in
        let low = le-ltb (2 ^ 28) v most in
        (rw (those.is, value, other, low) refl, rw (those.is, ne_eqb those.first 45 (λ q. omega arith), value, other, low) refl)

-- the text of a literal begins no other line than one of numbers
literal_kind : (l : ℕ) (rest : List ℕ) → IsCode l → kind_of_line (literal_text l ++ rest) ≡ TokenLine
literal_kind l rest fits = literal_by (λ m text. kind_of_line (text ++ rest) ≡ TokenLine) (λ v some most. (refl, plain v (omega arith))) l fits
  where
    plain : (v : ℕ) → v < 2 ^ 64 → kind_of_line (decimal v ++ rest) ≡ TokenLine
    plain v low =
        let those = decimal_is v low in
        let below : (b : ℕ) → b < 48 → eqb those.first b ≡ false = λ b lt. ne_eqb those.first b (λ q. omega arith) in
        let above : (b : ℕ) → 57 < b → eqb those.first b ≡ false = λ b lt. ne_eqb those.first b (λ q. omega arith) in
        rw (those.is, below 32 (omega arith), below 9 (omega arith), below 13 (omega arith), above 99 (omega arith), below 37 (omega arith), above 112 (omega arith)) refl

-- ---- clauses

-- the literals of a clause and its 0, after those that come before them
tokens_read : (line : ℕ) (begun c : List ℕ) (next : List ℕ → Outcome) → All IsCode c →
    tokens_from line begun (map literal_text c ++ codes "0" ∷ []) next ≡ with_clause (begun ++ c) (next [])
unfolding tokens_from
tokens_read line begun [] next all = ap (λ b. with_clause b (next [])) (sym (append-nil begun))
tokens_read line begun (l ∷ c) next all =
    rw (literal_read l line begun _ (All-head IsCode l c all), tokens_read line (begun ++ l ∷ []) c next (All-tail IsCode l c all), append_assoc) refl

clause_words : (c : List ℕ) → All IsCode c → All IsWord (map literal_text c)
clause_words c all = words_are IsCode literal_text c literal_is_word all

clause_kind : (c : List ℕ) → All IsCode c → kind_of_line (clause_text c) ≡ TokenLine
clause_kind [] all = refl
clause_kind (l ∷ c) all = rw first_of_spaced (literal_kind l _ (All-head IsCode l c all))

-- whether or not a header came before
one_clause : (n : ℕ) (seen : Bool) (c : List ℕ) (ls : List (List ℕ)) → All IsCode c → lines_from n seen [] (clause_text c ∷ ls) ≡ with_clause c (lines_from (next_line n) true [] ls)
unfolding lines_from
one_clause n seen c ls all =
    rw (clause_kind c all, words_of-line_text (map literal_text c) (clause_words c all))
    (tokens_read (next_line n) [] c (λ still. lines_from (next_line n) true still ls) all)

clauses_read : (n : ℕ) (cs : List (List ℕ)) → All (All IsCode) cs → lines_from n true [] (lines_of (clauses_text cs)) ≡ (cs, Ended)
unfolding lines_from
clauses_read n [] all = refl
clauses_read n (c ∷ cs) all =
    let this = All-head (All IsCode) c cs all in
    let rest = clauses_read (next_line n) cs (All-tail (All IsCode) c cs all) in
    rw (lines_of-line_text (map literal_text c) (clauses_text cs) (clause_words c this), one_clause n true c (lines_of (clauses_text cs)) this, rest) refl

-- without a header
pub clauses_are_read : ClausesAreRead
unfolding lines_from
clauses_are_read [] all = refl
clauses_are_read (c ∷ cs) all =
    let this = All-head (All IsCode) c cs all in
    let rest = clauses_read (next_line 0) cs (All-tail (All IsCode) c cs all) in
    rw (lines_of-line_text (map literal_text c) (clauses_text cs) (clause_words c this), one_clause 0 false c (lines_of (clauses_text cs)) this, rest) refl

-- ---- the header

vars_low : (count : ℕ) (c : List ℕ) → count ≤ 2 ^ 28 → All IsCode c → vars_with count c ≤ 2 ^ 28
vars_low count [] low all = low
vars_low count (l ∷ c) low all =
    let code = All-head IsCode l c all in
    let one : var_of l + 1 ≤ 2 ^ 28 = omega arith in
    vars_low (max count (var_of l + 1)) c (omega arith) (All-tail IsCode l c all)

count_low : (count : ℕ) (cs : List (List ℕ)) → count ≤ 2 ^ 28 → All (All IsCode) cs → fold vars_with count cs ≤ 2 ^ 28
count_low count [] low all = low
count_low count (c ∷ cs) low all = count_low (vars_with count c) cs (vars_low count c low (All-head (All IsCode) c cs all)) (All-tail (All IsCode) c cs all)

header_passes : (vars count : ℕ) → vars < 2 ^ 64 → count < 2 ^ 64 → is_header (words_of (codes "p cnf " ++ spaced_word (decimal vars) ++ decimal count)) ≡ true
header_passes vars count low few =
    let v = decimal_is_word vars low in
    let n = decimal_is_word count few in
    rw (
      append_assoc (decimal vars) (codes " ") (decimal count),
      words_of-word (decimal vars) (decimal count) v,
      words_of-last (decimal count) n,
      v.some,
      (decimal_is vars low).all,
      n.some,
      (decimal_is count few).all,
    ) refl

header_in_line : (vars count : ℕ) → vars < 2 ^ 64 → count < 2 ^ 64 → list_all (nat_le 32) (codes "p cnf " ++ spaced_word (decimal vars) ++ decimal count) ≡ true
header_in_line vars count low few =
    rw (
      append_assoc (decimal vars) (codes " ") (decimal count),
      list_all-append (nat_le 32) (decimal vars) (32 ∷ decimal count),
      word_in_line (decimal vars) (decimal_is_word vars low),
      word_in_line (decimal count) (decimal_is_word count few),
    ) refl

header_read : (cs ls : List (List ℕ)) → var_count_of cs < 2 ^ 64 → length cs < 2 ^ 64 → lines_from 0 false [] (header_text cs ∷ ls) ≡ lines_from 1 true [] ls
unfolding lines_from
header_read cs ls low few = rw (header_passes (var_count_of cs) (length cs) low few) refl

pub formula_is_read : FormulaIsRead
formula_is_read cs few all =
    let most = count_low 0 cs (omega arith) all in
    let low : var_count_of cs < 2 ^ 64 = omega (arith, most) in
    let in_line = header_in_line (var_count_of cs) (length cs) low few in
    rw (lines_of-line (header_text cs) (clauses_text cs) in_line, header_read cs (lines_of (clauses_text cs)) low few) (clauses_read 1 cs all)
