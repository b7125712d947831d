-- Byte after byte an answer says what its lines say.
use Rattle.std.proofs.Common.{◌≡◌, ℕ, ◌+◌, ◌-◌, ◌*◌, ◌^◌, ◌<◌, min, Bool, true, false, cond, List, [], ◌∷◌, ◌++◌, length, Some, Ok, Err, refl, sym, ap, ◌∙◌, arith, inl, inr}
use Rattle.std.specs.Prelude.{◌==◌, Option, None, Result, filter}
use Rattle.std.specs.List.{slice_split}
use Rattle.std.proofs.lemmas.Bool.{cases_Bool, eqb-true, ne_eqb, cases_eq, cases_lt, lt-ltb}
use Rattle.std.proofs.lemmas.Bool.Decides.{nat_tests}
use Rattle.sat_rules.specs.Clauses.{has, negate}
use Rattle.sat_formula.specs.Bytes.{is_lf, is_blank, is_digit}
use Rattle.sat_formula.specs.Digits.{value_after}
use Rattle.sat_formula.specs.Lines.{has_bytes, value_from, value_of, words_of}
use Rattle.sat_formula.specs.Outcome.{next_line}
use Rattle.sat_formula.proofs.Lines.{front, others, slice_split-front}
use Rattle.answer_text.specs.declared.fault.AnswerKind.{AnswerKind}
use Rattle.answer_text.specs.declared.fault.AnswerKind.TheVariants as kinds
use Rattle.answer_text.specs.declared.spot.Status.{Status}
use Rattle.answer_text.specs.declared.spot.Status.TheVariants as statuses
use Rattle.answer_text.specs.declared.spot.Place.{Place}
use Rattle.answer_text.specs.declared.spot.Place.TheVariants.{LineStart, Comment, AfterS, BeforeWord, Word, AfterV, Between, Sign, Digits}
use Rattle.answer_text.specs.declared.spot.Spot.{Spot}
use Rattle.answer_text.specs.declared.spot.After.{After}
use Rattle.answer_text.specs.declared.spot.After.TheVariants.{Goes, Gives, Stops}
use Rattle.answer_text.specs.Answers.{Outcome, Lists, Faulty, SoFar, after_s, after_v, first_then, line_then, answer_from, nothing, number_of, number_then, numbers_from, outcome_of, satisfiable_then, status_then, word_said}
use Rattle.answer_text.specs.Answers as lines
use Rattle.answer_text.specs.Numbers.{lit_said}
use Rattle.answer_text.specs.automaton.Answers.{Step, On, Off, at_end, finish, outcome_at, taken}
use Rattle.answer_text.specs.automaton.Places.{after, between, first_digit, in_digits, in_word, is_spelled, number_read, start, status_read, turns, word_of}
use Rattle.answer_text.proofs.Statuses.{first_s, first_u, or_left, rest-goes, rest-short, rest-stops, rest-turns, status_s, status_u, word_rest}
use Rattle.answer_text.proofs.Words.{and_right, spelled-letter}

abbrev at : ℕ → Place → Bool → Bool → Bool → Spot
at line place listed told marked = record { line = line; place = place; listed = listed; told = told; marked = marked }

abbrev so_far : List ℕ → Bool → Bool → Bool → SoFar
so_far lits listed told marked = record { lits = lits; listed = listed; told = told; marked = marked }

-- ---- what one byte leads to

abbrev leads : (List ℕ → Spot → Outcome) → List ℕ → ℕ → After → Outcome
leads k lits line (Goes s) = k lits s
leads k lits line (Gives lit s) = cond (has (negate lit) lits) (Faulty line kinds.BothSigns) (k (lits ++ lit ∷ []) s)
leads k lits line (Stops kind) = Faulty line kind

abbrev goes_on : Step → List ℕ → Outcome
goes_on d bytes = elim d [ On more next ↦ outcome_at more next bytes | Off line kind ↦ Faulty line kind ]

taken-leads : (lits : List ℕ) (line : ℕ) (a : After) (bytes : List ℕ) → goes_on (taken lits line a) bytes ≡ leads (λ l s. outcome_at l s bytes) lits line a
taken-leads lits line (Goes s) bytes = refl
taken-leads lits line (Gives lit s) bytes = elim (cases_Bool (has (negate lit) lits)) [ inl e ↦ rw e refl | inr e ↦ rw e refl ]
taken-leads lits line (Stops kind) bytes = refl

end-leads : (lits : List ℕ) (line : ℕ) (a : After) → at_end line (taken lits line a) ≡ leads (λ l s. finish line l s) lits line a
end-leads lits line (Goes s) = refl
end-leads lits line (Gives lit s) = elim (cases_Bool (has (negate lit) lits)) [ inl e ↦ rw e refl | inr e ↦ rw e refl ]
end-leads lits line (Stops kind) = refl

pub byte_read : (lits : List ℕ) (s : Spot) (b : ℕ) (bytes : List ℕ) → outcome_at lits s (b ∷ bytes) ≡ leads (λ l t. outcome_at l t bytes) lits s.line (after s b)
unfolding outcome_at
byte_read lits s b bytes = taken-leads lits s.line (after s b) bytes

end_read : (lits : List ℕ) (s : Spot) → outcome_at lits s [] ≡ leads (λ l t. finish s.line l t) lits s.line (after s 10)
unfolding outcome_at
end_read lits s = end-leads lits s.line (after s 10)

-- ---- numbers, of which the reader keeps only that they are large if they are

number-large : (negative : Bool) (v : ℕ) → 2 ^ 28 < v → lit_said negative v ≡ Err kinds.NumberTooLarge
number-large negative v large = rw (ne_eqb v 0 (λ z. omega arith), lt-ltb (2 ^ 28) v large) refl

said-alike : (negative : Bool) (v u : ℕ) → min v (2 ^ 28 + 1) ≡ min u (2 ^ 28 + 1) → lit_said negative v ≡ lit_said negative u
said-alike negative v u e =
    elim (cases_lt (2 ^ 28) v) [
      | inl large ↦ let also : 2 ^ 28 < u = omega arith in number-large negative v large ∙ sym (number-large negative u also)
      | inr small ↦ let same : v ≡ u = omega arith in ap (λ (n : ℕ). lit_said negative n) same
    ]

number-alike : (negative : Bool) (v u : ℕ) (bytes : List ℕ) → min v (2 ^ 28 + 1) ≡ min u (2 ^ 28 + 1) → number_of negative (value_from v bytes) ≡ number_of negative (value_from u bytes)
number-alike negative v u [] e = said-alike negative v u e
number-alike negative v u (d ∷ bytes) e =
    elim (cases_Bool (is_digit d)) [
      | inl t ↦ rw t (number-alike negative (v * 10 + (d - 48)) (u * 10 + (d - 48)) bytes (omega arith))
      | inr t ↦ rw t refl
    ]

digit-blank : (b : ℕ) → is_digit b ≡ true → is_blank b ≡ false
digit-blank b e = grind (arith, nat_tests)

-- ---- what the rest of a line gives at each place in it; `next` is what follows

-- the words after the one that is open
abbrev words_after : List ℕ → List (List ℕ)
words_after l = filter has_bytes (others is_blank l)

abbrev number_rest : ℕ → SoFar → Result (Option ℕ) AnswerKind → List (List ℕ) → (SoFar → Outcome) → Outcome
number_rest line s said ws next = number_then line s said (λ more. numbers_from line more ws next)

abbrev rest : Place → ℕ → SoFar → List ℕ → (SoFar → Outcome) → Outcome
rest LineStart line s l next = line_then line s l next
rest Comment line s l next = next s
rest AfterS line s l next = after_s line s l next
rest BeforeWord line s l next = status_then line s (words_of l) next
rest (Word status read) line s l next = word_rest status read line s (front is_blank l) (words_after l) next
rest AfterV line s l next = after_v line s l next
rest Between line s l next = numbers_from line s (words_of l) next
rest Sign line s l next = number_rest line s (number_of true (value_of (front is_blank l))) (words_after l) next
rest (Digits negative v) line s l next = number_rest line s (number_of negative (value_from v (front is_blank l))) (words_after l) next

-- a number ends, and the reading goes on at another spot
number_ends : (k : List ℕ → Spot → Outcome) (next : SoFar → Outcome) (line line' : ℕ) (p p' : Place) (said : Result (Option ℕ) AnswerKind) (lits : List ℕ) (listed told marked : Bool) →
    ((lits : List ℕ) (listed told marked : Bool) → k lits (at line' p' listed told marked) ≡ next (so_far lits listed told marked)) →
    leads k lits line (number_read (at line p listed told marked) said (at line' p' listed told marked)) ≡ number_then line (so_far lits listed told marked) said next
number_ends k next line line' p p' (Err kind) lits listed told marked h = refl
number_ends k next line line' p p' (Ok None) lits true told marked h = refl
number_ends k next line line' p p' (Ok None) lits false told marked h = h lits true told marked
number_ends k next line line' p p' (Ok (Some l)) lits true told marked h = refl
number_ends k next line line' p p' (Ok (Some l)) lits false told marked h =
    ap (λ o. cond (has (negate l) lits) (Faulty line kinds.BothSigns) o) (h (lits ++ l ∷ []) false told marked)

-- ---- an LF, or the end of the text

module _ (k : List ℕ → Spot → Outcome) (next : SoFar → Outcome) (line : ℕ)
    (h : (lits : List ℕ) (listed told marked : Bool) → k lits (at (next_line line) LineStart listed told marked) ≡ next (so_far lits listed told marked)) where
  -- the formula is satisfiable
  satisfiable_lf : (status : Status) (read : ℕ) (lits : List ℕ) (listed told marked : Bool) →
      leads k lits line (status_read (at line (Word status read) listed told marked) statuses.Satisfiable 10) ≡ satisfiable_then line (so_far lits listed told marked) [] next
  satisfiable_lf status read lits listed true marked = refl
  satisfiable_lf status read lits listed false marked = h lits listed true marked

  word_lf : (status : Status) (read : ℕ) (lits : List ℕ) (listed told marked : Bool) → is_spelled status read 10 ≡ false →
      leads k lits line (in_word (at line (Word status read) listed told marked) status read 10) ≡ word_rest status read line (so_far lits listed told marked) [] [] next
  word_lf statuses.Satisfiable read lits listed told marked none = elim (cases_Bool (read == 11)) [
    | inl e ↦ rw (none, e) (satisfiable_lf statuses.Satisfiable read lits listed told marked)
    | inr e ↦ rw (none, e) refl
  ]
  word_lf statuses.Sat read lits listed told marked none = elim (cases_Bool (read == 3)) [
    | inl e ↦ rw (none, e) (satisfiable_lf statuses.Sat read lits listed told marked)
    | inr e ↦ rw (none, e) refl
  ]
  word_lf statuses.Unsatisfiable read lits listed told marked none =
      elim (cases_Bool (read == 2)) [
        | inl two ↦ elim (cases_Bool (read == 13)) [ inl e ↦ rw (none, two, e) refl | inr e ↦ rw (none, two, e) refl ]
        | inr two ↦ elim (cases_Bool (read == 13)) [ inl e ↦ rw (none, two, e) refl | inr e ↦ rw (none, two, e) refl ]
      ]
  word_lf statuses.Unknown read lits listed told marked none = elim (cases_Bool (read == 7)) [ inl e ↦ rw (none, e) refl | inr e ↦ rw (none, e) refl ]
  word_lf statuses.Unsat read lits listed told marked none = elim (cases_Bool (read == 5)) [ inl e ↦ rw (none, e) refl | inr e ↦ rw (none, e) refl ]

  no_lf : (status : Status) (read : ℕ) → is_spelled status read 10 ≡ false
  no_lf status read = elim (cases_Bool (is_spelled status read 10)) [ inl e ↦ let bad = spelled-letter status read 10 e in absurd cc | inr e ↦ e ]

  pub at_lf : (p : Place) (lits : List ℕ) (listed told marked : Bool) →
      leads k lits line (after (at line p listed told marked) 10) ≡ rest p line (so_far lits listed told marked) [] next
  unfolding after numbers_from
  at_lf LineStart lits listed told marked = elim (cases_Bool (line == 1)) [ inl e ↦ rw e (h lits listed told marked) | inr e ↦ rw e (h lits listed told marked) ]
  at_lf Comment lits listed told marked = h lits listed told marked
  at_lf AfterS lits listed told marked = refl
  at_lf BeforeWord lits listed told marked = refl
  at_lf (Word status read) lits listed told marked = word_lf status read lits listed told marked (no_lf status read)
  at_lf AfterV lits listed told marked = h lits listed told marked
  at_lf Between lits listed told marked = h lits listed told marked
  at_lf Sign lits listed told marked = refl
  at_lf (Digits negative v) lits listed told marked = number_ends k next line (next_line line) (Digits negative v) LineStart (lit_said negative v) lits listed told marked h

-- ---- another byte

words_of-blank : (b : ℕ) (bytes : List ℕ) → is_blank b ≡ true → words_of (b ∷ bytes) ≡ words_of bytes
words_of-blank b bytes e = rw e refl

words_of-byte : (b : ℕ) (bytes : List ℕ) → is_blank b ≡ false → words_of (b ∷ bytes) ≡ (b ∷ front is_blank bytes) ∷ words_after bytes
words_of-byte b bytes e = rw (e, slice_split-front is_blank bytes) refl

module _ (k : List ℕ → Spot → Outcome) (next : SoFar → Outcome) (line : ℕ) (l : List ℕ)
    (later : (p : Place) (lits : List ℕ) (listed told marked : Bool) → k lits (at line p listed told marked) ≡ rest p line (so_far lits listed told marked) l next)
    (b : ℕ) (n : b ≡ 10 → ⊥) where
  -- a number, or a blank before one
  between_byte : (p : Place) (lits : List ℕ) (listed told marked : Bool) →
      leads k lits line (between (at line p listed told marked) b) ≡ numbers_from line (so_far lits listed told marked) (words_of (b ∷ l)) next
  unfolding numbers_from
  between_byte p lits listed told marked = elim (cases_Bool (is_blank b)) [
    | inl e ↦ rw (e, ne_eqb b 10 n) (later Between lits listed told marked)
    | inr e ↦ rw (words_of-byte b l e, e, ne_eqb b 10 n) (elim (cases_Bool (b == 45)) [
      | inl m ↦ rw m (later Sign lits listed told marked)
      | inr m ↦ elim (cases_Bool (is_digit b)) [
        | inl d ↦ rw (m, d) (
            later (Digits false (b - 48)) lits listed told marked
            ∙ ap (λ said. number_rest line (so_far lits listed told marked) said (words_after l) next)
            (number-alike false (b - 48) (0 * 10 + (b - 48)) (front is_blank l) (omega arith))
            )
        | inr d ↦ rw (m, d) refl
      ]
    ])
  ]

  -- the first digit after a `-`
  sign_byte : (p : Place) (lits : List ℕ) (listed told marked : Bool) →
      leads k lits line (first_digit (at line p listed told marked) true b) ≡ rest Sign line (so_far lits listed told marked) (b ∷ l) next
  sign_byte p lits listed told marked = elim (cases_Bool (is_digit b)) [
    | inl d ↦ rw (d, digit-blank b d) (
        later (Digits true (b - 48)) lits listed told marked
        ∙ ap (λ said. number_rest line (so_far lits listed told marked) said (words_after l) next)
        (number-alike true (b - 48) (0 * 10 + (b - 48)) (front is_blank l) (omega arith))
        ∙ rw d refl
        )
    | inr d ↦ elim (cases_Bool (is_blank b)) [ inl e ↦ rw (d, e) refl | inr e ↦ rw (d, e, d) refl ]
  ]

  -- a digit, or what ends them
  digits_byte : (negative : Bool) (v : ℕ) (lits : List ℕ) (listed told marked : Bool) →
      leads k lits line (in_digits (at line (Digits negative v) listed told marked) negative v b) ≡ rest (Digits negative v) line (so_far lits listed told marked) (b ∷ l) next
  digits_byte negative v lits listed told marked = elim (cases_Bool (is_digit b)) [
    | inl d ↦ rw (d, digit-blank b d) (
        later (Digits negative (value_after v b)) lits listed told marked
        ∙ ap (λ said. number_rest line (so_far lits listed told marked) said (words_after l) next)
        (number-alike negative (value_after v b) (v * 10 + (b - 48)) (front is_blank l) (omega arith))
        ∙ rw d refl
        )
    | inr d ↦ elim (cases_Bool (is_blank b)) [
      | inl e ↦ rw (d, e, ne_eqb b 10 n)
          (number_ends k (λ more. numbers_from line more (words_of l) next) line line (Digits negative v) Between (lit_said negative v) lits listed told marked (λ ls x y z. later Between ls x y z))
      | inr e ↦ rw (d, e, ne_eqb b 10 n, d) refl
    ]
  ]

  -- the formula is satisfiable, and a blank comes after the whole word
  satisfiable_blank : (status : Status) (read : ℕ) (lits : List ℕ) (listed told marked : Bool) →
      ((s : SoFar) (ws : List (List ℕ)) → word_rest status read line s [] ws next ≡ satisfiable_then line s ws next) →
      ((s : SoFar) (x : ℕ) (f : List ℕ) (ws : List (List ℕ)) → word_rest status read line s (x ∷ f) ws next ≡ Faulty line kinds.Malformed) →
      leads k lits line (status_read (at line (Word status read) listed told marked) statuses.Satisfiable b) ≡ satisfiable_then line (so_far lits listed told marked) (words_of l) next
  satisfiable_blank status read lits listed told marked whole more = by_told told
    where
      by_front : (f : List ℕ) (s : SoFar) → s.told ≡ false → word_rest status read line s f (words_after l) next ≡ satisfiable_then line s (filter has_bytes (f ∷ others is_blank l)) next
      by_front [] s e = whole s (words_after l)
      by_front (x ∷ f) s e = more s x f (words_after l) ∙ ap (λ t. Faulty line (cond t kinds.SecondStatus kinds.Malformed)) (sym e)

      told_true : (ws : List (List ℕ)) → Faulty line kinds.SecondStatus ≡ satisfiable_then line (so_far lits listed true marked) ws next
      told_true [] = refl
      told_true (w ∷ ws) = refl

      by_told : (t : Bool) → leads k lits line (status_read (at line (Word status read) listed t marked) statuses.Satisfiable b) ≡ satisfiable_then line (so_far lits listed t marked) (words_of l) next
      by_told true = told_true (words_of l)
      by_told false = rw (ne_eqb b 10 n, slice_split-front is_blank l) (later (Word status read) lits listed false marked ∙ by_front (front is_blank l) (so_far lits listed false marked) refl)

  word_ends : (status : Status) (read : ℕ) (lits : List ℕ) (listed told marked : Bool) → (read == length (word_of status)) ≡ true →
      leads k lits line (status_read (at line (Word status read) listed told marked) status b) ≡ word_rest status read line (so_far lits listed told marked) [] (words_of l) next
  word_ends statuses.Satisfiable read lits listed told marked e =
      let is : read ≡ 11 = eqb-true read 11 e in
      satisfiable_blank statuses.Satisfiable read lits listed told marked (λ s ws. rw e refl) (λ s x f ws. rw is refl) ∙ rw e refl
  word_ends statuses.Unsatisfiable read lits listed told marked e = rw e refl
  word_ends statuses.Unknown read lits listed told marked e = rw e refl
  word_ends statuses.Sat read lits listed told marked e =
      let is : read ≡ 3 = eqb-true read 3 e in
      satisfiable_blank statuses.Sat read lits listed told marked (λ s ws. rw e refl) (λ s x f ws. rw is refl) ∙ rw e refl
  word_ends statuses.Unsat read lits listed told marked e = rw e refl

  word_turns : (status : Status) (read : ℕ) (lits : List ℕ) (listed told marked : Bool) → is_spelled status read b ≡ false → turns status read b ≡ true →
      leads k lits line (in_word (at line (Word status read) listed told marked) status read b) ≡ rest (Word status read) line (so_far lits listed told marked) (b ∷ l) next
  word_turns statuses.Unsatisfiable read lits listed told marked e t =
      let is : b ≡ 75 = eqb-true b 75 (and_right (read == 2) (b == 75) t) in
      let letter : is_blank b ≡ false = ap is_blank is in
      rw (e, t, letter) (later (Word statuses.Unknown 3) lits listed told marked
      ∙ sym (rest-turns line (so_far lits listed told marked) b (front is_blank l) (words_after l) next read e t))
  word_turns statuses.Satisfiable read lits listed told marked e t = absurd cc
  word_turns statuses.Unknown read lits listed told marked e t = absurd cc
  word_turns statuses.Sat read lits listed told marked e t = absurd cc
  word_turns statuses.Unsat read lits listed told marked e t = absurd cc

  word_byte : (status : Status) (read : ℕ) (lits : List ℕ) (listed told marked : Bool) →
      leads k lits line (in_word (at line (Word status read) listed told marked) status read b) ≡ rest (Word status read) line (so_far lits listed told marked) (b ∷ l) next
  word_byte status read lits listed told marked = elim (cases_Bool (is_spelled status read b)) [
    | inl e ↦ rw (e, or_left (is_blank b) (b == 10) (spelled-letter status read b e)) (
        later (Word status (read + 1)) lits listed told marked
        ∙ sym (rest-goes line (so_far lits listed told marked) b (front is_blank l) (words_after l) next status read e)
        )
    | inr e ↦ elim (cases_Bool (turns status read b)) [
      | inl t ↦ word_turns status read lits listed told marked e t
      | inr t ↦ elim (cases_Bool (is_blank b)) [
        | inl blank ↦ elim (cases_Bool (read == length (word_of status))) [
          | inl whole ↦ rw (e, t, blank, whole) (word_ends status read lits listed told marked whole)
          | inr short ↦ rw (e, t, blank, short) (sym (rest-short line (so_far lits listed told marked) b (front is_blank l) (words_of l) next status read short))
        ]
        | inr other ↦ rw (e, t, other, ne_eqb b 10 n) (sym (rest-stops line (so_far lits listed told marked) b (front is_blank l) (words_after l) next status read e t))
      ]
    ]
  ]

  -- the first byte of the first line may be of `SAT` or `UNSAT`
  text_byte : (lits : List ℕ) (listed told marked : Bool) → (b ≡ 99 → ⊥) → (b ≡ 115 → ⊥) → (b ≡ 118 → ⊥) →
      leads k lits line (after (at line LineStart listed told marked) b) ≡ line_then line (so_far lits listed told marked) (b ∷ l) next
  unfolding after
  text_byte lits listed told marked c s v = elim (cases_Bool (line == 1)) [
    | inl first ↦ elim (cases_eq b 83) [
      | inl q ↦ rw (q, first) (
          later (Word statuses.Sat 1) lits listed told marked
          ∙ sym (ap (λ ws. first_then line (so_far lits listed told marked) ws next) (words_of-byte 83 l refl)
          ∙ first_s line (so_far lits listed told marked) 83 (front is_blank l) (words_after l) next)
          )
      | inr not_s ↦ elim (cases_eq b 85) [
        | inl q ↦ rw (q, first) (
            later (Word statuses.Unsat 1) lits listed told marked
            ∙ sym (ap (λ ws. first_then line (so_far lits listed told marked) ws next) (words_of-byte 85 l refl)
            ∙ first_u line (so_far lits listed told marked) 85 (front is_blank l) (words_after l) next)
            )
        | inr not_u ↦ rw (ne_eqb b 99 c, ne_eqb b 115 s, ne_eqb b 118 v, first, ne_eqb b 83 not_s, ne_eqb b 85 not_u) (between_byte LineStart lits listed told marked)
      ]
    ]
    | inr later_line ↦ rw (ne_eqb b 99 c, ne_eqb b 115 s, ne_eqb b 118 v, later_line) (between_byte LineStart lits listed told marked)
  ]

  line_byte : (lits : List ℕ) (listed told marked : Bool) →
      leads k lits line (after (at line LineStart listed told marked) b) ≡ line_then line (so_far lits listed told marked) (b ∷ l) next
  unfolding after
  line_byte lits listed told marked = elim (cases_eq b 99) [
    | inl q ↦ rw q (later Comment lits listed told marked)
    | inr c ↦ elim (cases_eq b 115) [
      | inl q ↦ rw q (later AfterS lits listed told marked)
      | inr s ↦ elim (cases_eq b 118) [ inl q ↦ rw q (later AfterV lits listed told true) | inr v ↦ text_byte lits listed told marked c s v ]
    ]
  ]

  -- the first byte of a word after an `s`
  before_byte : (lits : List ℕ) (listed told marked : Bool) →
      leads k lits line (after (at line BeforeWord listed told marked) b) ≡ status_then line (so_far lits listed told marked) (words_of (b ∷ l)) next
  unfolding after
  before_byte lits listed told marked = elim (cases_Bool (is_blank b)) [
    | inl e ↦ rw e (later BeforeWord lits listed told marked)
    | inr e ↦ elim (cases_eq b 83) [
      | inl q ↦ rw q (
          later (Word statuses.Satisfiable 1) lits listed told marked
          ∙ sym (ap (λ ws. status_then line (so_far lits listed told marked) ws next) (words_of-byte 83 l refl)
          ∙ status_s line (so_far lits listed told marked) 83 (front is_blank l) (words_after l) next)
          )
      | inr not_s ↦ elim (cases_eq b 85) [
        | inl q ↦ rw q (
            later (Word statuses.Unsatisfiable 1) lits listed told marked
            ∙ sym (ap (λ ws. status_then line (so_far lits listed told marked) ws next) (words_of-byte 85 l refl)
            ∙ status_u line (so_far lits listed told marked) 85 (front is_blank l) (words_after l) next)
            )
        | inr not_u ↦ rw (words_of-byte b l e, e, ne_eqb b 83 not_s, ne_eqb b 85 not_u) refl
      ]
    ]
  ]

  pub at_byte : (p : Place) (lits : List ℕ) (listed told marked : Bool) →
      leads k lits line (after (at line p listed told marked) b) ≡ rest p line (so_far lits listed told marked) (b ∷ l) next
  unfolding after
  at_byte LineStart lits listed told marked = line_byte lits listed told marked
  at_byte Comment lits listed told marked = rw (ne_eqb b 10 n) (later Comment lits listed told marked)
  at_byte AfterS lits listed told marked = elim (cases_Bool (is_blank b)) [ inl e ↦ rw e (later BeforeWord lits listed told marked) | inr e ↦ rw e refl ]
  at_byte BeforeWord lits listed told marked = before_byte lits listed told marked
  at_byte (Word status read) lits listed told marked = word_byte status read lits listed told marked
  at_byte AfterV lits listed told marked = elim (cases_Bool (is_blank b)) [
    | inl e ↦ rw (e, ne_eqb b 10 n) (later Between lits listed told marked)
    | inr e ↦ rw (e, ne_eqb b 10 n) refl
  ]
  at_byte Between lits listed told marked = between_byte Between lits listed told marked
  at_byte Sign lits listed told marked = sign_byte Sign lits listed told marked
  at_byte (Digits negative v) lits listed told marked = digits_byte negative v lits listed told marked

-- ---- the text

abbrev Agrees : List ℕ → Type 0
Agrees bytes = (p : Place) (line : ℕ) (lits : List ℕ) (listed told marked : Bool) →
    outcome_at lits (at line p listed told marked) bytes ≡ rest p line (so_far lits listed told marked) (front is_lf bytes) (λ s. answer_from line s (others is_lf bytes))

next_lines : (bytes : List ℕ) → Agrees bytes → (line : ℕ) (lits : List ℕ) (listed told marked : Bool) →
    outcome_at lits (at (next_line line) LineStart listed told marked) bytes ≡ answer_from line (so_far lits listed told marked) (slice_split is_lf bytes)
unfolding answer_from
next_lines bytes later line lits listed told marked = later LineStart (next_line line) lits listed told marked ∙ rw (slice_split-front is_lf bytes) refl

agrees : (bytes : List ℕ) → Agrees bytes
unfolding answer_from
agrees [] p line lits listed told marked =
    end_read lits (at line p listed told marked) ∙ at_lf (λ l t. finish line l t) (λ s. lines.finish line s) line (λ ls x y z. refl) p lits listed told marked
agrees (b ∷ bytes) p line lits listed told marked =
    byte_read lits (at line p listed told marked) b bytes ∙ elim (cases_eq b 10) [
      | inl q ↦ rw q (at_lf (λ l t. outcome_at l t bytes) (λ s. answer_from line s (slice_split is_lf bytes)) line (next_lines bytes (agrees bytes) line) p lits listed told marked)
      | inr n ↦ rw (ne_eqb b 10 n) (at_byte (λ l t. outcome_at l t bytes) (λ s. answer_from line s (others is_lf bytes)) line (front is_lf bytes)
          (λ q ls x y z. agrees bytes q line ls x y z) b n p lits listed told marked)
    ]

pub are_lines : (text : List ℕ) → outcome_at [] start text ≡ outcome_of text
unfolding answer_from
are_lines text = agrees text LineStart 1 [] false false false ∙ rw (slice_split-front is_lf text) refl
