-- Words, byte after byte and in one piece.
use Rattle.std.proofs.Common.{◌≡◌, ℕ, zero, suc, ◌+◌, Bool, true, false, List, [], ◌∷◌, length, refl, sym, ap, ◌∙◌, arith, inl, inr}
use Rattle.std.specs.Prelude.{◌&&◌, ◌==◌, not, codes, nat_lt, slice_index, Option, None, Some}
use Rattle.std.specs.List.{list_all}
use Rattle.std.specs.Str.{bytes_eq}
use Rattle.std.proofs.lemmas.Bool.{cases_Bool, cases_eq, cases_lt, eq-eqb, eqb-true, le-ltb, lt-ltb, ne_eqb}
use Rattle.sat_formula.specs.Bytes.{is_lf}
use Rattle.sat_formula.specs.Digits.{ends_word}
use Rattle.session_text.specs.declared.format.Format.{Format}
use Rattle.session_text.specs.declared.format.Format.TheVariants as formats
use Rattle.session_text.specs.declared.line.Status.{Status}
use Rattle.session_text.specs.declared.line.Status.TheVariants as statuses
use Rattle.session_text.specs.declared.fault.TextKind.TheVariants as kinds
use Rattle.session_text.specs.Fields.{header}
use Rattle.session_text.specs.Statuses.{turns, word_of}
use Rattle.session_text.specs.Texts.{LineSaid, Wrong, after_header, header_said}

pub and_left : (a b : Bool) → (a && b) ≡ true → a ≡ true
and_left true b e = refl
and_left false b e = e

pub and_right : (a b : Bool) → (a && b) ≡ true → b ≡ true
and_right true b e = e
and_right false b e = absurd cc

suc-eq : (a b : ℕ) → (suc a == suc b) ≡ (a == b)
suc-eq a b = elim (cases_eq a b) [
  | inl e ↦ rw e (eq-eqb (suc b) (suc b) refl ∙ sym (eq-eqb b b refl))
  | inr other ↦ ne_eqb (suc a) (suc b) (λ z. other (omega arith)) ∙ sym (ne_eqb a b other)
]

suc-lt : (a b : ℕ) → nat_lt (suc a) (suc b) ≡ nat_lt a b
suc-lt a b = elim (cases_lt a b) [
  | inl e ↦ lt-ltb (suc a) (suc b) (omega arith) ∙ sym (lt-ltb a b e)
  | inr e ↦ le-ltb (suc a) (suc b) (omega arith) ∙ sym (le-ltb a b e)
]

suc-more : (n : ℕ) → suc n + 1 ≡ suc (n + 1)
suc-more n = omega arith

eq-sym : (a b : ℕ) → (a == b) ≡ (b == a)
eq-sym a b = grind (arith, eqb-true)

-- ---- what is left of a word

-- what is left of a word, of which this many bytes were read
abbrev pub tail_of : List ℕ → ℕ → Option (List ℕ)
tail_of w zero = Some w
tail_of [] (suc n) = None
tail_of (x ∷ w) (suc n) = tail_of w n

-- it begins with this byte
abbrev pub is_next : ℕ → Option (List ℕ) → Bool
is_next b None = false
is_next b (Some []) = false
is_next b (Some (x ∷ w)) = x == b

-- it is empty
abbrev pub is_whole : Option (List ℕ) → Bool
is_whole None = false
is_whole (Some []) = true
is_whole (Some (x ∷ w)) = false

-- without its first byte
abbrev pub behind_first : Option (List ℕ) → Option (List ℕ)
behind_first None = None
behind_first (Some []) = None
behind_first (Some (x ∷ w)) = Some w

pub spelled : (w : List ℕ) (read b : ℕ) → (nat_lt read (length w) && (slice_index w read == b)) ≡ is_next b (tail_of w read)
spelled [] zero b = rw (le-ltb 0 0 (omega arith)) refl
spelled [] (suc n) b = rw (le-ltb (suc n) 0 (omega arith)) refl
spelled (x ∷ w) zero b = rw (lt-ltb 0 (suc (length w)) (omega arith)) refl
spelled (x ∷ w) (suc n) b = ap (λ t. t && (slice_index w n == b)) (suc-lt n (length w)) ∙ spelled w n b

pub whole : (w : List ℕ) (read : ℕ) → (read == length w) ≡ is_whole (tail_of w read)
whole [] zero = refl
whole [] (suc n) = ne_eqb (suc n) 0 (λ z. omega arith)
whole (x ∷ w) zero = ne_eqb 0 (suc (length w)) (λ z. omega arith)
whole (x ∷ w) (suc n) = suc-eq n (length w) ∙ whole w n

pub further : (w : List ℕ) (read : ℕ) → tail_of w (read + 1) ≡ behind_first (tail_of w read)
further [] zero = refl
further [] (suc n) = ap (tail_of []) (suc-more n)
further (x ∷ w) zero = refl
further (x ∷ w) (suc n) = ap (tail_of (x ∷ w)) (suc-more n) ∙ further w n

-- where no byte of a word passes a test, the next one does not
next_fails : (q : ℕ → Bool) (w : List ℕ) (read b : ℕ) → list_all (λ x. not (q x)) w ≡ true → is_next b (tail_of w read) ≡ true → q b ≡ false
next_fails q [] zero b all e = absurd cc
next_fails q [] (suc n) b all e = absurd cc
next_fails q (x ∷ w) zero b all e = let same : x ≡ b = eqb-true x b e in not_true (q b) (rw same at (and_left (not (q x)) (list_all (λ x. not (q x)) w) all))
  where
    not_true : (t : Bool) → not t ≡ true → t ≡ false
    not_true true e = absurd cc
    not_true false e = refl
next_fails q (x ∷ w) (suc n) b all e = next_fails q w n b (and_right (not (q x)) (list_all (λ x. not (q x)) w) all) e

-- ---- statuses

-- these bytes are what is left
abbrev pub left_is : List ℕ → Option (List ℕ) → Bool
left_is f None = false
left_is f (Some w) = bytes_eq f w

pub left-goes : (b : ℕ) (f : List ℕ) (t : Option (List ℕ)) → is_next b t ≡ true → left_is (b ∷ f) t ≡ left_is f (behind_first t)
left-goes b f None e = refl
left-goes b f (Some []) e = refl
left-goes b f (Some (x ∷ w)) e = rw (eq-sym b x, e) refl

pub left-stops : (b : ℕ) (f : List ℕ) (t : Option (List ℕ)) → is_next b t ≡ false → left_is (b ∷ f) t ≡ false
left-stops b f None e = refl
left-stops b f (Some []) e = refl
left-stops b f (Some (x ∷ w)) e = rw (eq-sym b x, e) refl

pub left-whole : (t : Option (List ℕ)) → left_is [] t ≡ is_whole t
left-whole None = refl
left-whole (Some []) = refl
left-whole (Some (x ∷ w)) = refl

pub left-word : (f w : List ℕ) (read : ℕ) (b : ℕ) → is_next b (tail_of w read) ≡ true → left_is (b ∷ f) (tail_of w read) ≡ left_is f (tail_of w (read + 1))
left-word f w read b e = left-goes b f (tail_of w read) e ∙ ap (left_is f) (sym (further w read))

pub spelled-letter : (s : Status) (read b : ℕ) → is_next b (tail_of (word_of s) read) ≡ true → ends_word b ≡ false
spelled-letter statuses.Satisfiable read b e = next_fails ends_word (codes "SATISFIABLE") read b refl e
spelled-letter statuses.Unsatisfiable read b e = next_fails ends_word (codes "UNSATISFIABLE") read b refl e
spelled-letter statuses.Unknown read b e = next_fails ends_word (codes "UNKNOWN") read b refl e

-- these bytes are what is left of `UNKNOWN`, of which this many were read, as of `UNSATISFIABLE`
abbrev pub turned : ℕ → List ℕ → Bool
turned zero f = bytes_eq f (codes "UNKNOWN")
turned (suc zero) f = bytes_eq f (codes "NKNOWN")
turned (suc (suc zero)) f = bytes_eq f (codes "KNOWN")
turned (suc (suc (suc n))) f = false

turned-late : (n : ℕ) (f : List ℕ) → turned (suc (suc (suc n)) + 1) f ≡ false
turned-late n f = let e : suc (suc (suc n)) + 1 ≡ suc (suc (suc (n + 1))) = omega arith in rw e refl

pub turned-goes : (read b : ℕ) (f : List ℕ) → is_next b (tail_of (codes "UNSATISFIABLE") read) ≡ true → turned read (b ∷ f) ≡ turned (read + 1) f
turned-goes zero b f e = let is : 85 ≡ b = eqb-true 85 b e in rw (← is) refl
turned-goes (suc zero) b f e = let is : 78 ≡ b = eqb-true 78 b e in rw (← is) refl
turned-goes (suc (suc zero)) b f e = let is : 83 ≡ b = eqb-true 83 b e in rw (← is) refl
turned-goes (suc (suc (suc n))) b f e = sym (turned-late n f)

pub turned-stops : (read b : ℕ) (f : List ℕ) → is_next b (tail_of (codes "UNSATISFIABLE") read) ≡ false → turns statuses.Unsatisfiable read b ≡ false → turned read (b ∷ f) ≡ false
turned-stops zero b f e t = rw (eq-sym b 85, e) refl
turned-stops (suc zero) b f e t = rw (eq-sym b 78, e) refl
turned-stops (suc (suc zero)) b f e t = rw t refl
turned-stops (suc (suc (suc n))) b f e t = refl

pub turned-short : (read : ℕ) → turned read [] ≡ false
turned-short zero = refl
turned-short (suc zero) = refl
turned-short (suc (suc zero)) = refl
turned-short (suc (suc (suc n))) = refl

-- ---- headers

-- what is left of a header, and then the rest of the line
abbrev pub header_left : Option (List ℕ) → List ℕ → LineSaid
header_left None l = Wrong kinds.NoHeader
header_left (Some w) l = header_said w l

pub header-goes : (b : ℕ) (l : List ℕ) (t : Option (List ℕ)) → is_next b t ≡ true → header_left t (b ∷ l) ≡ header_left (behind_first t) l
header-goes b l None e = absurd cc
header-goes b l (Some []) e = absurd cc
header-goes b l (Some (x ∷ w)) e = rw e refl

pub header-stops : (b : ℕ) (l : List ℕ) (t : Option (List ℕ)) → is_next b t ≡ false → is_whole t ≡ false → header_left t (b ∷ l) ≡ Wrong kinds.NoHeader
header-stops b l None e f = refl
header-stops b l (Some []) e f = absurd cc
header-stops b l (Some (x ∷ w)) e f = rw e refl

pub header-short : (t : Option (List ℕ)) → is_whole t ≡ false → header_left t [] ≡ Wrong kinds.NoHeader
header-short None f = refl
header-short (Some []) f = absurd cc
header-short (Some (x ∷ w)) f = refl

pub header-whole : (l : List ℕ) (t : Option (List ℕ)) → is_whole t ≡ true → header_left t l ≡ after_header l
header-whole l None f = absurd cc
header-whole l (Some []) f = refl
header-whole l (Some (x ∷ w)) f = absurd cc

pub header-no_lf : (format : Format) (read : ℕ) → is_next 10 (tail_of (header format) read) ≡ false
header-no_lf format read = elim (cases_Bool (is_next 10 (tail_of (header format) read))) [
  | inl e ↦ let bad : is_lf 10 ≡ false = by_format format e in absurd cc
  | inr e ↦ e
]
  where
    by_format : (format : Format) → is_next 10 (tail_of (header format) read) ≡ true → is_lf 10 ≡ false
    by_format formats.Icnf e = next_fails is_lf (codes "p icnf") read 10 refl e
    by_format formats.Lidrup e = next_fails is_lf (codes "p lidrup") read 10 refl e
