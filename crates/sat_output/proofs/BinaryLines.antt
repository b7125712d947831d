-- What is written of binary LRAT lines is read again.
use Rattle.std.proofs.Common.{◌≡◌, ℕ, zero, suc, ◌+◌, ◌-◌, ◌*◌, ◌/◌, ◌%◌, ◌^◌, ◌<◌, ◌≤◌, List, [], ◌∷◌, ◌++◌, Some, Ok, refl, sym, ap, append_assoc, append-nil, inl, inr, arith}
use Rattle.std.specs.Prelude.{All, map, nat_lt}
use Rattle.std.proofs.lemmas.Bool.{cases_Bool, lt-ltb, ltb-true, ltb-false, ne_eqb}
use Rattle.std.proofs.lemmas.List.Elements.{All-head, All-tail}
use Rattle.sat_formula.specs.Outcome.{next_line}
use Rattle.lrat_rules.specs.Lines as rules
use Rattle.lrat_rules.specs.Lines.{Line, along, against, adds, deletes}
use Rattle.lrat_text.specs.Grammar.{hint_of}
use Rattle.lrat_text.specs.Texts.{Ended}
use Rattle.lrat_text.specs.declared.line.Hint.{Hint}
use Rattle.lrat_binary.specs.declared.ids.Ids.TheVariants.{Plain}
use Rattle.lrat_binary.specs.Lines.{outcome_at}
use Rattle.lrat_binary.specs.Numbers.{hint_said, id_said, lit_said}
use Rattle.drat_text.specs.Codes.{Whole, code_at}
use Rattle.drat_text.specs.Places.{ninth_last}
use Rattle.drat_text.proofs.CodeLemmas.{IsWeight, code_byte, code_partial, code_then, code_whole, first_weight, next_weight}
use Rattle.lrat_binary.specs.Places.{DeletedDue, HintDue, IdDue, LitDue, Outside, Slot, Within, said}
use Rattle.lrat_binary.specs.Reading.{goes_on, line_then}
use Rattle.lrat_binary.proofs.CodeLemmas.{begun_read}
use Rattle.sat_output.specs.LratBytes.{BytesAreRead, HasBinaryNumbers, IsBinaryHint, IsBinaryId, hint_number, line_bytes, lines_bytes, lit_number, numbers_bytes}
use Rattle.sat_output.specs.LratTexts.{numbered}
use Rattle.written_numbers.specs.GroupedBytes.{groups, number_bytes}
use Rattle.written_numbers.specs.Words.{IsCode}
use Rattle.written_numbers.proofs.GroupedBytes.{group_large, group_small, next_small}
use Rattle.sat_output.proofs.LratLines.{hint_back, hints_back}

-- ---- numbers

-- the groups after the first one
rest_value : (v n w : ℕ) → (v + (n % 128) * w) + (n / 128) * (w * 128) ≡ v + n * w
rest_value v n w = let whole : n ≡ n / 128 * 128 + n % 128 = omega arith in omega (arith, ap (λ (m : ℕ). m * w) whole)

rest_small : (n w : ℕ) → n * w < 2 ^ 63 → (n / 128) * (w * 128) < 2 ^ 63
rest_small n w lt = let part = rest_value 0 n w in omega arith

not_ninth : (n w : ℕ) → 128 ≤ n → n * w < 2 ^ 63 → w ≡ 72057594037927936 → ⊥
not_ninth n w le lt e = let small = rw e at lt in omega arith

last_group : (left n v w : ℕ) (more : List ℕ) → n < 128 → code_at (2 ^ 56) v w (groups left n ++ more) ≡ (Whole (v + n * w), more)
unfolding code_then
last_group left n v w more lt =
    let same : n % 128 ≡ n = omega arith in
    rw (group_small left n lt, code_byte (2 ^ 56) v w n more, code_whole (2 ^ 56) v w n lt, same) refl

groups_read : (i left n v w : ℕ) (more : List ℕ) → left + i ≡ 9 → n < 2 ^ (64 - 7 * i) → IsWeight (2 ^ 56) w → n * w < 2 ^ 63 →
    code_at (2 ^ 56) v w (groups left n ++ more) ≡ (Whole (v + n * w), more)
unfolding code_then
groups_read i zero n v w more e few is lt =
    let nine : i ≡ 9 = omega arith in
    let low = rw nine at few in
    last_group zero n v w more (omega arith)
groups_read i (suc left) n v w more e few is lt = elim (cases_Bool (nat_lt n 128)) [
  | inl small ↦ last_group (suc left) n v w more (ltb-true n 128 small)
  | inr large ↦
      let le = ltb-false n 128 large in
      let x = 128 + n % 128 in
      let other = not_ninth n w le lt in
      let same : x % 128 ≡ n % 128 = omega arith in
      let rest = groups_read (i + 1) left (n / 128) (v + (x % 128) * w) (w * 128) more (omega arith)
      (next_small i n (omega arith) few) (next_weight (2 ^ 56) w is other) (rest_small n w lt) in
      rw (
        group_large (suc left) left n refl le,
        code_byte (2 ^ 56) v w x (groups left (n / 128) ++ more),
        code_partial (2 ^ 56) v w x (omega arith) other,
        rest,
        same,
        rest_value v n w,
      ) refl
]

number_read : (before : ℕ) (slot : Slot) (n : ℕ) (more : List ℕ) → n < 2 ^ 63 →
    outcome_at Plain before (Within slot) (number_bytes n ++ more) ≡ goes_on Plain before (said Plain slot n) more
unfolding number_bytes
number_read before slot n more lt =
    let value : 0 + n * 1 ≡ n = omega arith in
    rw (
      begun_read Plain before slot (number_bytes n ++ more),
      groups_read 0 9 n 0 1 more refl (omega arith) (first_weight (2 ^ 56) ninth_last) (omega arith),
      value,
    ) refl

-- ---- literals, hints and ids

lit_read : (l : ℕ) → IsCode l → lit_said (lit_number l) ≡ Ok (Some l)
lit_read l fits =
    let same : l + 2 - 2 ≡ l = omega arith in
    rw (ne_eqb (l + 2) 0 (λ q. omega arith), ne_eqb (l + 2) 1 (λ q. omega arith), same, lt-ltb l (2 ^ 29) fits) refl

hint_read : (h : rules.Hint) → IsBinaryHint h → hint_said (hint_number h) ≡ Ok (Some (hint_back h))
hint_read (along id) fits =
    let even : id * 2 % 2 ≡ 0 = omega arith in
    let half : id * 2 / 2 ≡ id = omega arith in
    rw (ne_eqb (id * 2) 0 (λ q. omega arith), ne_eqb (id * 2) 1 (λ q. omega arith), even, half) refl
hint_read (against id) fits =
    let odd : (id * 2 + 1) % 2 ≡ 1 = omega arith in
    let half : (id * 2 + 1) / 2 ≡ id = omega arith in
    rw (ne_eqb (id * 2 + 1) 0 (λ q. omega arith), ne_eqb (id * 2 + 1) 1 (λ q. omega arith), odd, half) refl

hint_low : (h : rules.Hint) → IsBinaryHint h → hint_number h < 2 ^ 63
hint_low (along id) fits = omega arith
hint_low (against id) fits = omega arith

id_read : (id : ℕ) → IsBinaryId id → id_said Plain id ≡ Ok (Some id)
id_read id fits = rw (ne_eqb id 0 (λ q. omega arith)) refl

id_low : (id : ℕ) → IsBinaryId id → id < 2 ^ 63
id_low id fits = omega arith

-- ---- lists

module _ (before : ℕ) where
  literals_read : (id : ℕ) (begun c more : List ℕ) → All IsCode c →
      outcome_at Plain before (Within (LitDue id begun)) (numbers_bytes (map lit_number c) ++ 0 ∷ more) ≡ outcome_at Plain before (Within (HintDue id (begun ++ c) [])) more
  unfolding outcome_at
  literals_read id begun [] more all = ap (λ (ls : List ℕ). outcome_at Plain before (Within (HintDue id ls [])) more) (sym (append-nil begun))
  literals_read id begun (l ∷ c) more all =
      let fits = All-head IsCode l c all in
      let rest = numbers_bytes (map lit_number c) in
      rw (
        append_assoc (number_bytes (lit_number l)) rest (0 ∷ more),
        number_read before (LitDue id begun) (lit_number l) (rest ++ 0 ∷ more) (omega arith),
        lit_read l fits,
        literals_read id (begun ++ l ∷ []) c more (All-tail IsCode l c all),
        append_assoc begun (l ∷ []) c,
      ) refl

  hints_read : (id : ℕ) (c : List ℕ) (begun : List Hint) (hints : List rules.Hint) (more : List ℕ) → All IsBinaryHint hints →
      outcome_at Plain before (Within (HintDue id c begun)) (numbers_bytes (map hint_number hints) ++ 0 ∷ more)
      ≡ line_then Plain before (adds id c (map hint_of (begun ++ map hint_back hints))) more
  unfolding outcome_at
  hints_read id c begun [] more all = ap (λ (hs : List Hint). line_then Plain before (adds id c (map hint_of hs)) more) (sym (append-nil begun))
  hints_read id c begun (h ∷ hints) more all =
      let fits = All-head IsBinaryHint h hints all in
      let rest = numbers_bytes (map hint_number hints) in
      rw (
        append_assoc (number_bytes (hint_number h)) rest (0 ∷ more),
        number_read before (HintDue id c begun) (hint_number h) (rest ++ 0 ∷ more) (hint_low h fits),
        hint_read h fits,
        hints_read id c (begun ++ hint_back h ∷ []) hints more (All-tail IsBinaryHint h hints all),
        append_assoc begun (hint_back h ∷ []) (map hint_back hints),
      ) refl

  ids_read : (begun ids more : List ℕ) → All IsBinaryId ids →
      outcome_at Plain before (Within (DeletedDue begun)) (numbers_bytes ids ++ 0 ∷ more) ≡ line_then Plain before (deletes (begun ++ ids)) more
  unfolding outcome_at
  ids_read begun [] more all = ap (λ (is : List ℕ). line_then Plain before (deletes is) more) (sym (append-nil begun))
  ids_read begun (id ∷ ids) more all =
      let fits = All-head IsBinaryId id ids all in
      let rest = numbers_bytes ids in
      rw (
        append_assoc (number_bytes id) rest (0 ∷ more),
        number_read before (DeletedDue begun) id (rest ++ 0 ∷ more) (id_low id fits),
        id_read id fits,
        ids_read (begun ++ id ∷ []) ids more (All-tail IsBinaryId id ids all),
        append_assoc begun (id ∷ []) ids,
      ) refl

-- ---- lines

line_read : (before : ℕ) (x : Line) (more : List ℕ) → HasBinaryNumbers x → outcome_at Plain before Outside (line_bytes x ++ more) ≡ line_then Plain before x more
unfolding outcome_at
line_read before (adds id c hints) more fit =
    let ls = numbers_bytes (map lit_number c) in
    let hs = numbers_bytes (map hint_number hints) in
    simp append_assoc (rw (
      number_read before IdDue id (ls ++ 0 ∷ (hs ++ 0 ∷ more)) (id_low id fit.0),
      id_read id fit.0,
      literals_read before id [] c (hs ++ 0 ∷ more) fit.1,
      hints_read before id c [] hints more fit.2,
      hints_back,
    ) refl)
line_read before (deletes ids) more fit =
    rw (append_assoc (numbers_bytes ids) (0 ∷ []) more) (ids_read before [] ids more fit)

lines_read : (before : ℕ) (xs : List Line) → All HasBinaryNumbers xs → outcome_at Plain before Outside (lines_bytes xs) ≡ (numbered before xs, Ended)
unfolding outcome_at
lines_read before [] fit = refl
lines_read before (x ∷ xs) fit =
    rw (line_read before x (lines_bytes xs) (All-head HasBinaryNumbers x xs fit), lines_read (next_line before) xs (All-tail HasBinaryNumbers x xs fit)) refl

pub bytes_are_read : BytesAreRead
bytes_are_read xs fit = lines_read 0 xs fit
