-- The words of statuses, byte after byte and in one piece.
use Rattle.std.proofs.Common.{◌≡◌, ℕ, zero, suc, ◌+◌, ◌<◌, ◌≤◌, Bool, true, false, cond, List, [], ◌∷◌, length, refl, sym, ap, ◌∙◌, arith, inl, inr}
use Rattle.std.specs.Prelude.{◌&&◌, ◌==◌, not, codes, nat_lt, slice_index}
use Rattle.std.specs.List.{list_all}
use Rattle.std.specs.Str.{bytes_eq}
use Rattle.std.proofs.lemmas.Bool.{cases_Bool, cases_eq, cases_lt, eq-eqb, eqb-true, le-ltb, lt-ltb, ltb-true, ne_eqb}
use Rattle.sat_formula.specs.Digits.{ends_word}
use Rattle.answer_text.specs.declared.spot.Status.{Status}
use Rattle.answer_text.specs.declared.spot.Status.TheVariants as statuses
use Rattle.answer_text.specs.automaton.Places.{is_spelled}

pub and_left : (a b : Bool) → (a && b) ≡ true → a ≡ true
and_left true b e = refl
and_left false b e = e

pub and_right : (a b : Bool) → (a && b) ≡ true → b ≡ true
and_right true b e = e
and_right false b e = absurd cc

-- these bytes are what is left of a word, of which this many were read
abbrev pub spells : List ℕ → ℕ → List ℕ → Bool
spells word read [] = read == length word
spells word read (b ∷ bs) = (nat_lt read (length word) && (slice_index word read == b)) && spells word (read + 1) bs

suc-eq : (a b : ℕ) → (suc a == suc b) ≡ (a == b)
suc-eq a b = elim (cases_eq a b) [
  | inl e ↦ rw e (eq-eqb (suc b) (suc b) refl ∙ sym (eq-eqb b b refl))
  | inr other ↦ ne_eqb (suc a) (suc b) (λ z. other (omega arith)) ∙ sym (ne_eqb a b other)
]

suc-lt : (a b : ℕ) → nat_lt (suc a) (suc b) ≡ nat_lt a b
suc-lt a b = elim (cases_lt a b) [
  | inl e ↦ lt-ltb (suc a) (suc b) (omega arith) ∙ sym (lt-ltb a b e)
  | inr e ↦ le-ltb (suc a) (suc b) (omega arith) ∙ sym (le-ltb a b e)
]

suc-more : (n : ℕ) → suc n + 1 ≡ suc (n + 1)
suc-more n = omega arith

-- one byte more in front
spells-shift : (w : ℕ) (word : List ℕ) (read : ℕ) (bytes : List ℕ) → spells (w ∷ word) (suc read) bytes ≡ spells word read bytes
spells-shift w word read [] = suc-eq read (length word)
spells-shift w word read (b ∷ bs) =
    ap (λ t. (t && (slice_index word read == b)) && spells (w ∷ word) (suc read + 1) bs) (suc-lt read (length word))
    ∙ ap (λ t. (nat_lt read (length word) && (slice_index word read == b)) && t)
    (ap (λ (r : ℕ). spells (w ∷ word) r bs) (suc-more read) ∙ spells-shift w word (read + 1) bs)

eq-sym : (a b : ℕ) → (a == b) ≡ (b == a)
eq-sym a b = grind (arith, eqb-true)

pub spells-whole : (word bytes : List ℕ) → spells word 0 bytes ≡ bytes_eq bytes word
spells-whole [] [] = refl
spells-whole [] (b ∷ bs) = refl
spells-whole (w ∷ word) [] = ne_eqb 0 (suc (length word)) (λ z. omega arith)
spells-whole (w ∷ word) (b ∷ bs) = rw (lt-ltb 0 (suc (length word)) (omega arith), eq-sym w b, spells-shift w word 0 bs, spells-whole word bs) refl

pub spells-first : (w : ℕ) (word bytes : List ℕ) → spells (w ∷ word) 1 bytes ≡ bytes_eq bytes word
spells-first w word bytes = spells-shift w word 0 bytes ∙ spells-whole word bytes

-- the bytes of words are letters
abbrev are_letters : List ℕ → Bool
are_letters word = list_all (λ b. not (ends_word b)) word

letter_at : (word : List ℕ) (read b : ℕ) → are_letters word ≡ true → (nat_lt read (length word) && (slice_index word read == b)) ≡ true → ends_word b ≡ false
letter_at [] read b all e = let less : read < 0 = ltb-true read 0 (and_left (nat_lt read 0) (slice_index [] read == b) e) in absurd (omega arith)
letter_at (w ∷ word) zero b all e = let same : w ≡ b = eqb-true w b (and_right (nat_lt 0 (suc (length word))) (w == b) e) in not_true (ends_word b) (rw same at (and_left (not (ends_word w)) (are_letters word) all))
  where
    not_true : (t : Bool) → not t ≡ true → t ≡ false
    not_true true e = absurd cc
    not_true false e = refl
letter_at (w ∷ word) (suc read) b all e = letter_at word read b (and_right (not (ends_word w)) (are_letters word) all) (ap (λ t. t && (slice_index word read == b)) (sym (suc-lt read (length word))) ∙ e)

pub spelled-letter : (s : Status) (read b : ℕ) → is_spelled s read b ≡ true → ends_word b ≡ false
spelled-letter statuses.Satisfiable read b e = letter_at (codes "SATISFIABLE") read b refl e
spelled-letter statuses.Unsatisfiable read b e = letter_at (codes "UNSATISFIABLE") read b refl e
spelled-letter statuses.Unknown read b e = letter_at (codes "UNKNOWN") read b refl e
spelled-letter statuses.Sat read b e = letter_at (codes "SAT") read b refl e
spelled-letter statuses.Unsat read b e = letter_at (codes "UNSAT") read b refl e

-- ---- UN may be followed by KNOWN

-- these bytes are what is left of `UNKNOWN`, of which this many were read, as of `UNSATISFIABLE`
abbrev pub turned : ℕ → List ℕ → Bool
turned read [] = false
turned read (b ∷ bs) =
    cond (is_spelled statuses.Unsatisfiable read b) (turned (read + 1) bs) ((read == 2 && (b == 75)) && spells (codes "UNKNOWN") 3 bs)

turned-late : (read : ℕ) (bytes : List ℕ) → 3 ≤ read → turned read bytes ≡ false
turned-late read [] late = refl
turned-late read (b ∷ bs) late = elim (cases_Bool (is_spelled statuses.Unsatisfiable read b)) [
  | inl e ↦ rw e (turned-late (read + 1) bs (omega arith))
  | inr e ↦ rw (e, ne_eqb read 2 (λ z. omega arith)) refl
]

spells-known : (bytes : List ℕ) → spells (codes "UNKNOWN") 3 bytes ≡ bytes_eq bytes (codes "NOWN")
spells-known bytes =
    spells-shift 85 (codes "NKNOWN") 2 bytes ∙ spells-shift 78 (codes "KNOWN") 1 bytes ∙ spells-shift 75 (codes "NOWN") 0 bytes ∙ spells-whole (codes "NOWN") bytes

turned-second : (bytes : List ℕ) → turned 2 bytes ≡ bytes_eq bytes (codes "KNOWN")
turned-second [] = refl
turned-second (b ∷ bs) = elim (cases_Bool (83 == b)) [
  | inl e ↦ let is : 83 ≡ b = eqb-true 83 b e in rw (← is) (turned-late 3 bs (omega arith))
  | inr e ↦ rw (e, spells-known bs) refl
]

pub turned-first : (bytes : List ℕ) → turned 1 bytes ≡ bytes_eq bytes (codes "NKNOWN")
turned-first [] = refl
turned-first (b ∷ bs) = elim (cases_Bool (78 == b)) [
  | inl e ↦ let is : 78 ≡ b = eqb-true 78 b e in rw (← is) (turned-second bs)
  | inr e ↦ rw (e, eq-sym b 78, e) refl
]

-- ---- one byte

pub spells-goes : (word : List ℕ) (read b : ℕ) (bytes : List ℕ) → (nat_lt read (length word) && (slice_index word read == b)) ≡ true → spells word read (b ∷ bytes) ≡ spells word (read + 1) bytes
spells-goes word read b bytes e = ap (λ t. t && spells word (read + 1) bytes) e

pub spells-stops : (word : List ℕ) (read b : ℕ) (bytes : List ℕ) → (nat_lt read (length word) && (slice_index word read == b)) ≡ false → spells word read (b ∷ bytes) ≡ false
spells-stops word read b bytes e = ap (λ t. t && spells word (read + 1) bytes) e

pub turned-goes : (read b : ℕ) (bytes : List ℕ) → is_spelled statuses.Unsatisfiable read b ≡ true → turned read (b ∷ bytes) ≡ turned (read + 1) bytes
turned-goes read b bytes e = rw e refl

pub turned-stops : (read b : ℕ) (bytes : List ℕ) → is_spelled statuses.Unsatisfiable read b ≡ false → turned read (b ∷ bytes) ≡ ((read == 2 && (b == 75)) && spells (codes "UNKNOWN") 3 bytes)
turned-stops read b bytes e = rw e refl
