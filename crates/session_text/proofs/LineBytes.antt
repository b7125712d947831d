-- A byte within a line.
use Rattle.std.proofs.Common.{◌≡◌, ℕ, ◌+◌, ◌-◌, ◌*◌, Bool, true, false, cond, List, [], ◌∷◌, Some, refl, sym, ap, ◌∙◌, arith, inl, inr}
use Rattle.std.specs.Prelude.{◌&&◌, ◌||◌, ◌==◌, not, codes, Option, None, filter}
use Rattle.std.proofs.lemmas.Bool.{cases_Bool, cases_eq, eqb-true, ne_eqb}
use Rattle.sat_formula.specs.Bytes.{is_blank, is_digit}
use Rattle.sat_formula.specs.Lines.{has_bytes, value_from, value_of, words_of}
use Rattle.sat_formula.proofs.Lines.{front, others, slice_split-front}
use Rattle.session_text.specs.declared.fault.TextKind.TheVariants as kinds
use Rattle.session_text.specs.declared.format.Format.{Format}
use Rattle.session_text.specs.declared.format.Format.TheVariants as formats
use Rattle.session_text.specs.declared.line.LineKind.{LineKind}
use Rattle.session_text.specs.declared.line.LineKind.TheVariants.{Answer}
use Rattle.session_text.specs.declared.line.Status.{Status}
use Rattle.session_text.specs.declared.line.Status.TheVariants as statuses
use Rattle.session_text.specs.declared.said.Said.{Said}
use Rattle.session_text.specs.declared.said.Said.TheVariants as says
use Rattle.session_text.specs.declared.spot.Due.{Due}
use Rattle.session_text.specs.declared.spot.Place.{Place}
use Rattle.session_text.specs.declared.spot.Place.TheVariants.{AfterS, BeforeWord, Between, Comment, Digits, Done, Group, Letter, LineStart, Sign, Word}
use Rattle.session_text.specs.declared.spot.Place.TheVariants as places
use Rattle.session_text.specs.declared.spot.Spot.{Spot}
use Rattle.session_text.specs.Content.{Content, no_content, with_item}
use Rattle.session_text.specs.Fields.{due_after, header, needs_header, number_said}
use Rattle.session_text.specs.Numbers.{with_digit}
use Rattle.session_text.specs.Outcomes.{Line, Outcome}
use Rattle.session_text.specs.Statuses.{turns, word_of}
use Rattle.session_text.specs.Texts.{Header, Holds, LineSaid, Wrong, after_letter, after_s, header_said, letter_said, line_said, line_then, number_of, numbers_from, only, status_said}
use Rattle.session_text.specs.automaton.Places.{after, begins, in_header, letter_of, number_read, start_of}
use Rattle.session_text.proofs.BinaryLines.{dues_alike}
use Rattle.session_text.proofs.Steps.{leads}
use Rattle.session_text.proofs.Words.{and_left, and_right, further, header_left, header-goes, header-stops, header-whole, is_next, is_whole, left-stops, left-word, spelled, spelled-letter, tail_of, turned-goes, turned-stops, whole}
use Rattle.session_text.proofs.Spots.{at, digit-blank, is_of_text, is_untold, no_binary, number-alike, number_rest, rest, short_rest, so_far, turns_binary, whole_rest, word_rest, words_after}

-- ---- another byte

words_of-blank : (b : ℕ) (bytes : List ℕ) → is_blank b ≡ true → words_of (b ∷ bytes) ≡ words_of bytes
words_of-blank b bytes e = rw e refl

words_of-byte : (b : ℕ) (bytes : List ℕ) → is_blank b ≡ false → words_of (b ∷ bytes) ≡ (b ∷ front is_blank bytes) ∷ words_after bytes
words_of-byte b bytes e = rw (e, slice_split-front is_blank bytes) refl

words_of-front : (bytes : List ℕ) → words_of bytes ≡ filter has_bytes (front is_blank bytes ∷ others is_blank bytes)
words_of-front bytes = ap (filter has_bytes) (slice_split-front is_blank bytes)

or_left : (a b : Bool) → (a || b) ≡ false → a ≡ false
or_left true b e = absurd cc
or_left false b e = refl

module _ (format : Format) (line : ℕ) (g : Content → Spot → Outcome) (e : Line → Spot → Outcome) (l : List ℕ) (ls : List (List ℕ)) (next : Bool → Bool → Outcome)
    (later : (p : Place) (c : Content) (headed told : Bool) → is_of_text p ≡ true →
    g (so_far p c) (at format line headed told p) ≡ line_then format line headed told (rest format headed told p c l) ls next)
    (b : ℕ) (n : b ≡ 10 → ⊥) where
  abbrev pub says_so : Bool → Bool → LineSaid → Outcome
  says_so headed told said = line_then format line headed told said ls next

  abbrev pub byte_leads : Bool → Bool → Place → Content → Outcome
  byte_leads headed told p c = leads g e (so_far p c) line (after (at format line headed told p) b)

  between_byte : (due : Due) (c : Content) (headed told : Bool) → byte_leads headed told (Between due) c ≡ says_so headed told (numbers_from due c (words_of (b ∷ l)))
  unfolding after numbers_from
  between_byte due c headed told = elim (cases_Bool (is_blank b)) [
    | inl y ↦ rw y (later (Between due) c headed told refl)
    | inr y ↦ rw (words_of-byte b l y, y) (elim (cases_Bool (b == 45)) [
      | inl m ↦ rw m (later (Sign due) c headed told refl)
      | inr m ↦ elim (cases_Bool (is_digit b)) [
        | inl d ↦ rw (m, d) (
            later (Digits due false (b - 48)) c headed told refl
            ∙ ap (λ said. says_so headed told (number_rest c said (words_after l)))
            (number-alike due false (b - 48) (0 * 10 + (b - 48)) (front is_blank l) (omega arith))
            )
        | inr d ↦ rw (m, d) refl
      ]
    ])
  ]

  sign_byte : (due : Due) (c : Content) (headed told : Bool) →
      byte_leads headed told (Sign due) c ≡ says_so headed told (number_rest c (number_of due true (value_of (front is_blank (b ∷ l)))) (words_after (b ∷ l)))
  unfolding after
  sign_byte due c headed told = elim (cases_Bool (is_digit b)) [
    | inl d ↦ rw (digit-blank b d, d) (
        later (Digits due true (b - 48)) c headed told refl
        ∙ ap (λ said. says_so headed told (number_rest c said (words_after l)))
        (number-alike due true (b - 48) (0 * 10 + (b - 48)) (front is_blank l) (omega arith))
        )
    | inr d ↦ elim (cases_Bool (is_blank b)) [ inl y ↦ rw (y, d) refl | inr y ↦ rw (y, d) refl ]
  ]

  -- a line whose numbers are over
  last_words : (headed told : Bool) (still : Bool) (x : Line) (ws : List (List ℕ)) → says_so headed true (only ws (Holds still x)) ≡ says_so headed told (only ws (Holds still x))
  last_words headed told still x [] = refl
  last_words headed told still x (w ∷ ws) = refl

  number_byte : (due : Due) (negative : Bool) (v : ℕ) (c : Content) (headed told : Bool) (said : Said) →
      leads g e c line (number_read (at format line headed told (Digits due negative v)) said) ≡ says_so headed told (number_rest c said (words_of l))
  number_byte due negative v c headed told (says.Next item more) = later (Between more) (with_item c item) headed told refl
  number_byte due negative v c headed told (says.Turns more) = later (Between more) c headed told refl
  number_byte due negative v c headed told (says.Last kind) =
      later (Done (Some kind)) c headed true refl ∙ last_words headed told true (record { kind = kind; content = c }) (words_of l)
  number_byte due negative v c headed told (says.Wrong kind) = refl

  digits_byte : (due : Due) (negative : Bool) (v : ℕ) (c : Content) (headed told : Bool) →
      byte_leads headed told (Digits due negative v) c
      ≡ says_so headed told (number_rest c (number_of due negative (value_from v (front is_blank (b ∷ l)))) (words_after (b ∷ l)))
  unfolding after
  digits_byte due negative v c headed told = elim (cases_Bool (is_digit b)) [
    | inl d ↦ rw (digit-blank b d, d) (
        later (Digits due negative (with_digit v b)) c headed told refl
        ∙ ap (λ said. says_so headed told (number_rest c said (words_after l)))
        (number-alike due negative (with_digit v b) (v * 10 + (b - 48)) (front is_blank l) (omega arith))
        )
    | inr d ↦ elim (cases_Bool (is_blank b)) [
      | inl y ↦ rw (y, d) (number_byte due negative v c headed told (number_said due negative v))
      | inr y ↦ rw (y, d, ne_eqb b 10 n) refl
    ]
  ]

  done_byte : (c : Content) (kind : LineKind) (headed told : Bool) →
      byte_leads headed told (Done (Some kind)) c ≡ says_so headed told (only (words_of (b ∷ l)) (Holds told (record { kind = kind; content = c })))
  unfolding after
  done_byte c kind headed told = elim (cases_Bool (is_blank b)) [
    | inl y ↦ rw (y, ne_eqb b 10 n) (later (Done (Some kind)) c headed told refl)
    | inr y ↦ rw (words_of-byte b l y, y, ne_eqb b 10 n) refl
  ]

  over_byte : (c : Content) (headed told : Bool) → byte_leads headed told (Done None) c ≡ says_so headed told (only (words_of (b ∷ l)) Header)
  unfolding after
  over_byte c headed told = elim (cases_Bool (is_blank b)) [
    | inl y ↦ rw (y, ne_eqb b 10 n) (later (Done None) c headed told refl)
    | inr y ↦ rw (words_of-byte b l y, y, ne_eqb b 10 n) refl
  ]

  -- ---- headers

  header_ends : (read : ℕ) (c : Content) (headed told : Bool) → is_whole (tail_of (header format) read) ≡ true → is_next b (tail_of (header format) read) ≡ false →
      byte_leads headed told (places.Header read) c ≡ says_so headed told (header_left (tail_of (header format) read) (b ∷ l))
  unfolding after
  header_ends read c headed told w y =
      rw (spelled (header format) read b, y, whole (header format) read, w, header-whole (b ∷ l) (tail_of (header format) read) w) (elim (cases_Bool (is_blank b)) [
        | inl z ↦ rw (z, ne_eqb b 10 n) (later (Done None) c headed told refl)
        | inr z ↦ rw (z, ne_eqb b 10 n) refl
      ])

  header_byte : (read : ℕ) (c : Content) (headed told : Bool) → byte_leads headed told (places.Header read) c ≡ says_so headed told (header_left (tail_of (header format) read) (b ∷ l))
  unfolding after
  header_byte read c headed told = elim (cases_Bool (is_next b (tail_of (header format) read))) [
    | inl y ↦ rw (spelled (header format) read b, y) (
        later (places.Header (read + 1)) c headed told refl
        ∙ ap (says_so headed told) (ap (λ t. header_left t l) (further (header format) read) ∙ sym (header-goes b l (tail_of (header format) read) y))
        )
    | inr y ↦ elim (cases_Bool (is_whole (tail_of (header format) read))) [
      | inl w ↦ header_ends read c headed told w y
      | inr w ↦ rw (spelled (header format) read b, y, whole (header format) read, w, header-stops b l (tail_of (header format) read) y w) refl
    ]
  ]

  -- ---- statuses

  word_goes : (status : Status) (read : ℕ) (told : Bool) → is_next b (tail_of (word_of status) read) ≡ true →
      word_rest told status (read + 1) (front is_blank l) (words_after l) ≡ word_rest told status read (b ∷ front is_blank l) (words_after l)
  word_goes statuses.Satisfiable read told y = rw (left-word (front is_blank l) (codes "SATISFIABLE") read b y) refl
  word_goes statuses.Unknown read told y = rw (left-word (front is_blank l) (codes "UNKNOWN") read b y) refl
  word_goes statuses.Unsatisfiable read told y = rw (left-word (front is_blank l) (codes "UNSATISFIABLE") read b y, turned-goes read b (front is_blank l) y) refl

  word_stops : (status : Status) (read : ℕ) (told : Bool) → is_next b (tail_of (word_of status) read) ≡ false → turns status read b ≡ false →
      word_rest told status read (b ∷ front is_blank l) (words_after l) ≡ Wrong kinds.Malformed
  word_stops statuses.Satisfiable read told y t = rw (left-stops b (front is_blank l) (tail_of (codes "SATISFIABLE") read) y) refl
  word_stops statuses.Unknown read told y t = rw (left-stops b (front is_blank l) (tail_of (codes "UNKNOWN") read) y) refl
  word_stops statuses.Unsatisfiable read told y t = rw (left-stops b (front is_blank l) (tail_of (codes "UNSATISFIABLE") read) y, turned-stops read b (front is_blank l) y t) refl

  word_turns : (status : Status) (read : ℕ) (c : Content) (headed told : Bool) → is_next b (tail_of (word_of status) read) ≡ false → turns status read b ≡ true →
      byte_leads headed told (Word status read) c ≡ says_so headed told (word_rest told status read (front is_blank (b ∷ l)) (words_after (b ∷ l)))
  unfolding after
  word_turns statuses.Satisfiable read c headed told y t = absurd cc
  word_turns statuses.Unknown read c headed told y t = absurd cc
  word_turns statuses.Unsatisfiable read c headed told y t =
      let two : read ≡ 2 = eqb-true read 2 (and_left (read == 2) (b == 75) t) in
      let is : b ≡ 75 = eqb-true b 75 (and_right (read == 2) (b == 75) t) in
      rw (two, is) (later (Word statuses.Unknown 3) c headed told refl)

  word_byte : (status : Status) (read : ℕ) (c : Content) (headed told : Bool) →
      byte_leads headed told (Word status read) c ≡ says_so headed told (word_rest told status read (front is_blank (b ∷ l)) (words_after (b ∷ l)))
  unfolding after
  word_byte status read c headed told = elim (cases_Bool (is_next b (tail_of (word_of status) read))) [
    | inl y ↦ rw (spelled (word_of status) read b, y, no_binary told, or_left (is_blank b) (b == 10) (spelled-letter status read b y)) (
        later (Word status (read + 1)) c headed told refl ∙ ap (says_so headed told) (word_goes status read told y)
        )
    | inr y ↦ elim (cases_Bool (turns status read b)) [
      | inl t ↦ word_turns status read c headed told y t
      | inr t ↦ elim (cases_Bool (is_blank b)) [
        | inl z ↦ elim (cases_Bool (is_whole (tail_of (word_of status) read))) [
          | inl w ↦ rw (spelled (word_of status) read b, y, t, z, whole (word_of status) read, w, ne_eqb b 10 n) (
              later (Done (Some (Answer status))) no_content headed told refl
              ∙ ap (says_so headed told) (sym (whole_rest told status read (words_of l) w))
              )
          | inr w ↦ rw (spelled (word_of status) read b, y, t, z, whole (word_of status) read, w) (
              ap (says_so headed told) (sym (short_rest told status read (words_of l) w))
              )
        ]
        | inr z ↦ rw (spelled (word_of status) read b, y, t, z, ne_eqb b 10 n) (ap (says_so headed told) (sym (word_stops status read told y t)))
      ]
    ]
  ]

  before_byte : (c : Content) (headed told : Bool) → byte_leads headed told BeforeWord c ≡ says_so headed told (status_said told (words_of (b ∷ l)))
  unfolding after
  before_byte c headed told = elim (cases_Bool (is_blank b)) [
    | inl y ↦ rw y (later BeforeWord c headed told refl)
    | inr y ↦ rw (words_of-byte b l y, y) (elim (cases_eq b 83) [
      | inl q ↦ rw q (later (Word statuses.Satisfiable 1) c headed told refl)
      | inr s ↦ elim (cases_eq b 85) [
        | inl q ↦ rw q (later (Word statuses.Unsatisfiable 1) c headed told refl)
        | inr u ↦ rw (ne_eqb b 83 s, ne_eqb b 85 u) refl
      ]
    ])
  ]

  -- ---- the letter, and the byte behind it

  letter_text : (due : Due) (c : Content) (headed told : Bool) → (not told && not (b == 32)) ≡ false → byte_leads headed told (Letter due) c ≡ says_so headed told (after_letter told due (b ∷ l))
  unfolding after
  letter_text due c headed told t = rw (is_untold told, t) (elim (cases_Bool (is_blank b)) [
    | inl y ↦ rw y (later (Between due) no_content headed told refl)
    | inr y ↦ rw y refl
  ])

  begin_byte : (d : Option Due) (headed told : Bool) → leads g e no_content line (begins (at format line true told LineStart) d) ≡ says_so headed told (letter_said told d l)
  begin_byte None headed told = refl
  begin_byte (Some due) headed told = rw (no_binary told) (later (Letter due) no_content headed told refl)

  letter_byte : (headed told : Bool) → leads g e no_content line (letter_of (at format line true told LineStart) b)
      ≡ says_so headed told (cond (b == 115) (after_s told l) (letter_said told (due_after format b) l))
  letter_byte headed told = elim (cases_Bool (b == 115)) [
    | inl s ↦ rw s (later AfterS no_content headed told refl)
    | inr s ↦ rw (s, dues_alike format b) (begin_byte (due_after format b) headed told)
  ]

  start_header : (headed told : Bool) → leads g e no_content line (in_header (at format line headed told LineStart) 0 b) ≡ says_so headed told (header_said (header format) (b ∷ l))
  start_header headed told = elim (cases_Bool (is_next b (tail_of (header format) 0))) [
    | inl y ↦ rw (spelled (header format) 0 b, y) (
        later (places.Header 1) no_content headed told refl
        ∙ ap (says_so headed told) (ap (λ t. header_left t l) (further (header format) 0) ∙ sym (header-goes b l (tail_of (header format) 0) y))
        )
    | inr y ↦ rw (spelled (header format) 0 b, y, whole (header format) 0, not_empty format, header-stops b l (tail_of (header format) 0) y (not_empty format)) refl
  ]
    where
      not_empty : (format : Format) → is_whole (tail_of (header format) 0) ≡ false
      not_empty formats.Icnf = refl
      not_empty formats.Lidrup = refl

  start_byte : (headed told : Bool) → leads g e no_content line (start_of (at format line headed told LineStart) b)
      ≡ says_so headed told (cond (not headed && needs_header format b) (header_said (header format) (b ∷ l)) (cond (b == 115) (after_s told l) (letter_said told (due_after format b) l)))
  start_byte headed told = elim (cases_Bool (not headed && needs_header format b)) [
    | inl h ↦ rw h (start_header headed told)
    | inr h ↦ rw h (letter_byte headed told)
  ]

  -- at a byte that begins a line
  after_start : (headed told : Bool) → is_blank b ≡ false → (b == 99) ≡ false → after (at format line headed told LineStart) b ≡ start_of (at format line headed told LineStart) b
  unfolding after
  after_start headed told y q = rw (no_binary told, ne_eqb b 10 n, y, q) refl

  said_start : (headed told : Bool) → is_blank b ≡ false → (b == 99) ≡ false → line_said format headed told (b ∷ l)
      ≡ cond (not headed && needs_header format b) (header_said (header format) (b ∷ l)) (cond (b == 115) (after_s told l) (letter_said told (due_after format b) l))
  said_start headed told y q = rw (y, q) refl

  line_byte : (c : Content) (headed told : Bool) → byte_leads headed told LineStart c ≡ says_so headed told (line_said format headed told (b ∷ l))
  unfolding after
  line_byte c headed told = elim (cases_Bool (is_blank b)) [
    | inl y ↦ rw (no_binary told, ne_eqb b 10 n, y) (later LineStart no_content headed told refl)
    | inr y ↦ elim (cases_Bool (b == 99)) [
      | inl q ↦ rw (no_binary told, ne_eqb b 10 n, y, q) (later Comment no_content headed told refl)
      | inr q ↦ ap (leads g e no_content line) (after_start headed told y q) ∙ start_byte headed told ∙ sym (ap (says_so headed told) (said_start headed told y q))
    ]
  ]

  pub at_byte : (p : Place) (c : Content) (headed told : Bool) → is_of_text p ≡ true → turns_binary told b p ≡ false →
      byte_leads headed told p c ≡ says_so headed told (rest format headed told p c (b ∷ l))
  unfolding after
  at_byte LineStart c headed told x t = line_byte c headed told
  at_byte Comment c headed told x t = rw (ne_eqb b 10 n) (later Comment c headed told refl)
  at_byte (places.Header read) c headed told x t = header_byte read c headed told
  at_byte (Letter due) c headed told x t = letter_text due c headed told t
  at_byte (Between due) c headed told x t = between_byte due c headed told
  at_byte (Sign due) c headed told x t = sign_byte due c headed told
  at_byte (Digits due negative v) c headed told x t = digits_byte due negative v c headed told
  at_byte (Group due v weight) c headed told x t = absurd cc
  at_byte AfterS c headed told x t = elim (cases_Bool (is_blank b)) [
    | inl y ↦ rw y (later BeforeWord c headed told refl)
    | inr y ↦ rw (y, no_binary told) refl
  ]
  at_byte BeforeWord c headed told x t = before_byte c headed told
  at_byte (Word status read) c headed told x t = word_byte status read c headed told
  at_byte (Done None) c headed told x t = over_byte c headed told
  at_byte (Done (Some kind)) c headed told x t = done_byte c kind headed told
