-- The byte machine gives what the lines of a text say.
use Rattle.std.proofs.Common.{◌≡◌, ℕ, ◌+◌, ◌-◌, ◌*◌, ◌^◌, ◌<◌, min, Bool, true, false, cond, List, [], ◌∷◌, ◌++◌, Some, refl, sym, ap, ◌∙◌, arith, inl, inr}
use Rattle.std.specs.Prelude.{◌&&◌, codes, filter, ◌==◌}
use Rattle.std.specs.List.{slice_split, onto_first, list_all, fold}
use Rattle.std.specs.Str.{bytes_eq}
use Rattle.std.proofs.lemmas.Bool.{cases_Bool, ne_eqb, cases_eq, cases_lt, lt-ltb}
use Rattle.sat_formula.specs.declared.fault.DimacsKind.TheVariants.{BadNumber, VarTooLarge, BadHeader, LateHeader, UnterminatedClause}
use Rattle.sat_formula.specs.declared.word.Number.TheVariants as numbers
use Rattle.sat_formula.specs.declared.word.Token.{Token}
use Rattle.sat_formula.specs.declared.word.Token.TheVariants as tokens
use Rattle.sat_formula.specs.declared.word.Header.{Header}
use Rattle.sat_formula.specs.declared.word.Header.TheVariants as headers
use Rattle.sat_formula.specs.Bytes.{is_lf, is_blank, is_digit}
use Rattle.sat_formula.specs.Outcome.{Ending, Outcome, Faulty, finish, next_line, with_clause}
use Rattle.sat_formula.specs.declared.past.Past.{Past}
use Rattle.sat_formula.specs.Counts.{no_counts, counts_after}
use Rattle.sat_formula.specs.Past.{nothing_past, past_after, with_header}
use Rattle.sat_formula.specs.Words.{begun_by, number_after, token_of, header_after, is_whole}
use Rattle.sat_formula.specs.Text.{At, Place, Start, Between, Comment, InHeader, InNumber, After, Goes, Gives, Stops, number_ends, number_last, at_end, outcome_at, start}
use Rattle.sat_formula.specs.Lines.{has_bytes, words_of, value_from, value_of, judged, token_of_word, all_pass, is_digits, is_header, LineKind}
use Rattle.sat_formula.specs.Lines.{HeaderLine, TokenLine, kind_of_line, token_then, tokens_from, header_then, line_then, lines_from, outcome_of}
use Rattle.sat_formula.proofs.Steps.{word_blank, word_number, number_blank, number_goes}

-- ---- a list cut at bytes: the part that is open, and the others

module _ (ends : ℕ → Bool) where
  -- what comes before the first byte that ends a part
  abbrev pub front : List ℕ → List ℕ
  front [] = []
  front (b ∷ bs) = cond (ends b) [] (b ∷ front bs)

  -- the parts after it
  abbrev pub others : List ℕ → List (List ℕ)
  others [] = []
  others (b ∷ bs) = cond (ends b) (slice_split ends bs) (others bs)

  pub slice_split-front : (bs : List ℕ) → slice_split ends bs ≡ front bs ∷ others bs
  slice_split-front [] = refl
  slice_split-front (b ∷ bs) =
      elim (cases_Bool (ends b)) [
        | inl e ↦ rw e refl
        | inr e ↦ rw e (ap (onto_first b) (slice_split-front bs))
      ]

-- ---- headers

abbrev two_counts : List (List ℕ → Bool)
two_counts = is_digits ∷ is_digits ∷ []

abbrev cnf_and_counts : List (List ℕ → Bool)
cnf_and_counts = (λ w. bytes_eq w (codes "cnf")) ∷ two_counts

-- what must come after what was read of a header: the part that is open, and the others
abbrev comes_after : Header → List ℕ → List (List ℕ) → Bool
comes_after headers.P w ws = bytes_eq w [] && all_pass cnf_and_counts (filter has_bytes ws)
comes_after headers.AfterP w ws = all_pass cnf_and_counts (filter has_bytes (w ∷ ws))
comes_after headers.C w ws = bytes_eq w (codes "nf") && all_pass two_counts (filter has_bytes ws)
comes_after headers.N w ws = bytes_eq w (codes "f") && all_pass two_counts (filter has_bytes ws)
comes_after headers.F w ws = bytes_eq w [] && all_pass two_counts (filter has_bytes ws)
comes_after headers.AfterCnf w ws = all_pass two_counts (filter has_bytes (w ∷ ws))
comes_after headers.Variables w ws = list_all is_digit w && all_pass (is_digits ∷ []) (filter has_bytes ws)
comes_after headers.AfterVariables w ws = all_pass (is_digits ∷ []) (filter has_bytes (w ∷ ws))
comes_after headers.Clauses w ws = list_all is_digit w && all_pass [] (filter has_bytes ws)
comes_after headers.AfterClauses w ws = all_pass [] (filter has_bytes (w ∷ ws))
comes_after headers.Bad w ws = false

comes_after-nothing : (h : Header) → is_whole h ≡ comes_after h [] []
comes_after-nothing headers.P = refl
comes_after-nothing _ = refl

-- a blank is none of the other bytes
blank_ne : (b k : ℕ) → is_blank k ≡ false → is_blank b ≡ true → (b == k) ≡ false
blank_ne b k other blank = elim (cases_eq b k) [ inl e ↦ let bad = rw e at blank in absurd cc | inr n ↦ ne_eqb b k n ]

module _ (b : ℕ) (w : List ℕ) (ws : List (List ℕ)) where
  comes_after-blank : (h : Header) → is_blank b ≡ true → comes_after (header_after h b) w ws ≡ comes_after h [] (w ∷ ws)
  comes_after-blank headers.C e = rw (blank_ne b 110 refl e) refl
  comes_after-blank headers.N e = rw (blank_ne b 102 refl e) refl
  comes_after-blank headers.Bad e = refl
  comes_after-blank _ e = rw e refl

  -- the part continues with a byte that passes a test, or the header is bad
  goes_on : (h : Header) (t x y : Bool) → comes_after h w ws ≡ (x && y) → comes_after (cond t h headers.Bad) w ws ≡ ((t && x) && y)
  goes_on h true x y e = e
  goes_on h false x y e = refl

  comes_after-byte : (h : Header) → is_blank b ≡ false → comes_after (header_after h b) w ws ≡ comes_after h (b ∷ w) ws
  comes_after-byte headers.AfterP e = rw e (goes_on headers.C (b == 99) _ _ refl)
  comes_after-byte headers.C e = goes_on headers.N (b == 110) _ _ refl
  comes_after-byte headers.N e = goes_on headers.F (b == 102) _ _ refl
  comes_after-byte headers.AfterCnf e = rw e (goes_on headers.Variables (is_digit b) _ _ refl)
  comes_after-byte headers.Variables e = rw e (goes_on headers.Variables (is_digit b) _ _ refl)
  comes_after-byte headers.AfterVariables e = rw e (goes_on headers.Clauses (is_digit b) _ _ refl)
  comes_after-byte headers.Clauses e = rw e (goes_on headers.Clauses (is_digit b) _ _ refl)
  comes_after-byte headers.Bad e = refl
  comes_after-byte _ e = rw e refl

-- what was read of a header and then the rest of its line
header-fold : (h : Header) (bytes : List ℕ) → is_whole (fold header_after h bytes) ≡ comes_after h (front is_blank bytes) (others is_blank bytes)
header-fold h [] = comes_after-nothing h
header-fold h (b ∷ bytes) =
    header-fold (header_after h b) bytes ∙ elim (cases_Bool (is_blank b)) [
      | inl e ↦ rw (e, slice_split-front is_blank bytes) (comes_after-blank b (front is_blank bytes) (others is_blank bytes) h e)
      | inr e ↦ rw e (comes_after-byte b (front is_blank bytes) (others is_blank bytes) h e)
    ]

-- a header's line, from its p on
header_of_line : (bytes : List ℕ) → is_whole (fold header_after headers.P bytes) ≡ is_header (words_of (112 ∷ bytes))
header_of_line bytes = header-fold headers.P bytes ∙ rw (slice_split-front is_blank bytes) refl

-- ---- numbers

judged-large : (negative : Bool) (v : ℕ) → 2 ^ 28 < v → judged negative (Some v) ≡ tokens.Wrong VarTooLarge
judged-large negative v large = rw (ne_eqb v 0 (λ z. omega arith), lt-ltb (2 ^ 28) v large) refl

-- only what is left below the cap counts
judged_alike : (negative : Bool) (v u : ℕ) → min v (2 ^ 28 + 1) ≡ min u (2 ^ 28 + 1) → judged negative (Some v) ≡ judged negative (Some u)
judged_alike negative v u e =
    elim (cases_lt (2 ^ 28) v) [
      | inl large ↦ let also : 2 ^ 28 < u = omega arith in judged-large negative v large ∙ sym (judged-large negative u also)
      | inr small ↦ let same : v ≡ u = omega arith in ap (λ (n : ℕ). judged negative (Some n)) same
    ]

bad-fold : (bytes : List ℕ) → token_of (fold number_after numbers.Bad bytes) ≡ tokens.Wrong BadNumber
bad-fold [] = refl
bad-fold (d ∷ bytes) = elim (cases_Bool (is_digit d)) [ inl e ↦ rw e (bad-fold bytes) | inr e ↦ rw e (bad-fold bytes) ]

digits-fold : (negative : Bool) (v u : ℕ) (bytes : List ℕ) → min v (2 ^ 28 + 1) ≡ min u (2 ^ 28 + 1) →
    token_of (fold number_after (numbers.Digits negative v) bytes) ≡ judged negative (value_from u bytes)
digits-fold negative v u [] e = judged_alike negative v u e
digits-fold negative v u (d ∷ bytes) e =
    elim (cases_Bool (is_digit d)) [
      | inl t ↦ rw t (digits-fold negative (min v (2 ^ 28 + 1) * 10 + (d - 48)) (u * 10 + (d - 48)) bytes (omega arith))
      | inr t ↦ rw t (bad-fold bytes)
    ]

-- digits at the start of a value
first-fold : (negative : Bool) (d : ℕ) (bytes : List ℕ) → token_of (fold number_after (cond (is_digit d) (numbers.Digits negative (d - 48)) numbers.Bad) bytes) ≡ judged negative (value_of (d ∷ bytes))
first-fold negative d bytes =
    elim (cases_Bool (is_digit d)) [
      | inl t ↦ rw t (digits-fold negative (d - 48) (0 * 10 + (d - 48)) bytes (omega arith))
      | inr t ↦ rw t (bad-fold bytes)
    ]

sign-fold : (bytes : List ℕ) → token_of (fold number_after numbers.Sign bytes) ≡ judged true (value_of bytes)
sign-fold [] = refl
sign-fold (d ∷ bytes) = first-fold true d bytes

-- a word is judged alike in one piece and byte after byte
number-fold : (b : ℕ) (bytes : List ℕ) → token_of (fold number_after (begun_by b) bytes) ≡ token_of_word (b ∷ bytes)
number-fold b bytes =
    elim (cases_Bool (b == 45)) [
      | inl t ↦ rw t (sign-fold bytes)
      | inr t ↦ rw t (first-fold false b bytes)
    ]

-- ---- the text

abbrev line_by : ℕ → Bool → List ℕ → List ℕ → (Bool → List ℕ → Outcome) → Outcome
line_by line seen begun bytes next = line_then (kind_of_line bytes) line seen begun bytes next

-- what the rest of a line gives at each place in it; `next` is what follows
abbrev rest_of_line : Place → ℕ → Bool → List ℕ → List ℕ → (Bool → List ℕ → Outcome) → Outcome
rest_of_line Start line seen begun bytes next = line_by line seen begun bytes next
rest_of_line Between line seen begun bytes next = tokens_from line begun (words_of bytes) (next true)
rest_of_line Comment line seen begun bytes next = next seen begun
rest_of_line (InHeader h counts) line seen begun bytes next = header_then line seen (is_whole (fold header_after h bytes)) (next true begun)
rest_of_line (InNumber n) line seen begun bytes next =
    token_then line begun (token_of (fold number_after n (front is_blank bytes))) (λ still. tokens_from line still (filter has_bytes (others is_blank bytes)) (next true))

abbrev ending : Ending → Outcome
ending e = ([], e)

-- between numbers a number came before
abbrev IsFit : Place → Bool → Type 0
IsFit Between seen = seen ≡ true
IsFit _ seen = Unit {0}

-- what one byte of a text leads to
abbrev then_at : List ℕ → After → Outcome
then_at bytes (Goes t) = outcome_at t bytes
then_at bytes (Gives clause t) = with_clause clause (outcome_at t bytes)
then_at bytes (Stops past e) = ([], e)

-- a number that ends, with what follows it
number_ends-then : (t : Token) (line : ℕ) (past : Past) (begun : List ℕ) (after : ℕ) (place : Place) (bytes : List ℕ) (next : List ℕ → Outcome) →
    ((now : Past) → now.seen ≡ true → (still : List ℕ) → outcome_at (At after now still place) bytes ≡ next still)
    → then_at bytes (number_ends line past begun t after place) ≡ token_then line begun t next
number_ends-then tokens.Zero line past begun after place bytes next h = ap (with_clause begun) (h (past_after past tokens.Zero line) refl [])
number_ends-then (tokens.Literal code) line past begun after place bytes next h = h (past_after past (tokens.Literal code) line) refl (begun ++ code ∷ [])
number_ends-then (tokens.Wrong kind) line past begun after place bytes next h = refl

-- a header that ends
header_ends-then : (line : ℕ) (past now : Past) (seen whole : Bool) (begun : List ℕ) (bytes : List ℕ) (next : Outcome) → outcome_at (At (next_line line) now begun Start) bytes ≡ next
    → then_at bytes (cond seen (Stops past (Faulty line LateHeader)) (cond whole (Goes (At (next_line line) now begun Start)) (Stops past (Faulty line BadHeader)))) ≡ header_then line seen whole next
header_ends-then line past now false true begun bytes next h = h
header_ends-then line past now _ _ begun bytes next h = refl

-- ---- the end of the input

finish-open : (line : ℕ) (begun : List ℕ) (code : ℕ) → finish line (begun ++ code ∷ []) ≡ Faulty line UnterminatedClause
finish-open line [] code = refl
finish-open line (l ∷ begun) code = refl

number_last-then : (line : ℕ) (begun : List ℕ) (t : Token) → number_last line begun t ≡ token_then line begun t (λ still. ([], finish line still))
number_last-then line begun (tokens.Literal code) = rw (finish-open line begun code) refl
number_last-then line begun _ = refl

header_last-then : (line : ℕ) (seen whole : Bool) (begun : List ℕ) →
    ending (cond seen (Faulty line LateHeader) (cond whole (finish line begun) (Faulty line BadHeader))) ≡
    header_then line seen whole (ending (finish line begun))
header_last-then line false true begun = refl
header_last-then line _ _ begun = refl

at_end-rest : (p : Place) (line : ℕ) (past : Past) (begun : List ℕ) → at_end (At line past begun p) ≡ rest_of_line p line past.seen begun [] (λ now still. ([], finish line still))
unfolding tokens_from
at_end-rest (InHeader h counts) line past begun = header_last-then line past.seen (is_whole h) begun
at_end-rest (InNumber n) line past begun = number_last-then line begun (token_of n)
at_end-rest _ line past begun = refl

-- ---- a blank, and the first byte of a word

words_of-blank : (b : ℕ) (bytes : List ℕ) → is_blank b ≡ true → words_of (b ∷ bytes) ≡ words_of bytes
words_of-blank b bytes e = rw e refl

words_of-byte : (b : ℕ) (bytes : List ℕ) → is_blank b ≡ false → words_of (b ∷ bytes) ≡ (b ∷ front is_blank bytes) ∷ filter has_bytes (others is_blank bytes)
words_of-byte b bytes e = rw (e, slice_split-front is_blank bytes) refl

line_then-words : (k : LineKind) (line : ℕ) (seen : Bool) (begun xs ys : List ℕ) (next : Bool → List ℕ → Outcome) →
    words_of xs ≡ words_of ys → line_then k line seen begun xs next ≡ line_then k line seen begun ys next
line_then-words HeaderLine line seen begun xs ys next e = ap (λ (ws : List (List ℕ)). header_then line seen (is_header ws) (next true begun)) e
line_then-words TokenLine line seen begun xs ys next e = ap (λ (ws : List (List ℕ)). tokens_from line begun ws (next true)) e
line_then-words _ line seen begun xs ys next e = refl

line_by-blank : (line : ℕ) (seen : Bool) (begun : List ℕ) (b : ℕ) (bytes : List ℕ) (next : Bool → List ℕ → Outcome) → is_blank b ≡ true →
    line_by line seen begun bytes next ≡ line_by line seen begun (b ∷ bytes) next
line_by-blank line seen begun b bytes next e = rw e (line_then-words (kind_of_line bytes) line seen begun bytes (b ∷ bytes) next (sym (words_of-blank b bytes e)))

kind_of_tokens : (b : ℕ) (bytes : List ℕ) → is_blank b ≡ false → (b ≡ 99 → ⊥) → (b ≡ 37 → ⊥) → (b ≡ 112 → ⊥) → kind_of_line (b ∷ bytes) ≡ TokenLine
kind_of_tokens b bytes e c mark p = rw (e, ne_eqb b 99 c, ne_eqb b 37 mark, ne_eqb b 112 p) refl

-- a word, byte after byte and in one piece
word-then : (line : ℕ) (begun : List ℕ) (b : ℕ) (bytes : List ℕ) (next : List ℕ → Outcome) → is_blank b ≡ false
    → token_then line begun (token_of (fold number_after (begun_by b) (front is_blank bytes)))
    (λ still. tokens_from line still (filter has_bytes (others is_blank bytes)) next) ≡ tokens_from line begun (words_of (b ∷ bytes)) next
unfolding tokens_from
word-then line begun b bytes next e = rw (number-fold b (front is_blank bytes), words_of-byte b bytes e) refl

-- ---- byte after byte

-- from each place in a line the machine gives what the rest of the line and the lines after it say
abbrev Agrees : List ℕ → Type 0
Agrees bytes = (p : Place) (line : ℕ) (past : Past) (begun : List ℕ) → IsFit p past.seen
    → outcome_at (At line past begun p) bytes ≡ rest_of_line p line past.seen begun (front is_lf bytes) (λ now still. lines_from line now still (others is_lf bytes))

module _ (bytes : List ℕ) (later : Agrees bytes) (line : ℕ) where
  next_lines : (past : Past) (begun : List ℕ) → outcome_at (At (next_line line) past begun Start) bytes ≡ lines_from line past.seen begun (slice_split is_lf bytes)
  unfolding lines_from
  next_lines past begun = later Start (next_line line) past begun tt ∙ rw (slice_split-front is_lf bytes) refl

  at_lf : (p : Place) (past : Past) (begun : List ℕ) → IsFit p past.seen →
      outcome_at (At line past begun p) (10 ∷ bytes) ≡
      rest_of_line p line past.seen begun [] (λ now still. lines_from line now still (slice_split is_lf bytes))
  unfolding outcome_at tokens_from
  at_lf Between past begun fit = next_lines past begun ∙ ap (λ now. lines_from line now begun (slice_split is_lf bytes)) fit
  at_lf (InHeader h counts) past begun fit = header_ends-then line past (with_header past counts) past.seen (is_whole h) begun bytes _ (next_lines (with_header past counts) begun)
  at_lf (InNumber n) past begun fit =
      number_ends-then (token_of n) line past begun (next_line line) Start bytes _ (λ now is still. next_lines now still ∙ ap (λ k. lines_from line k still (slice_split is_lf bytes)) is)
  at_lf _ past begun fit = next_lines past begun

  abbrev next : Bool → List ℕ → Outcome
  next now still = lines_from line now still (others is_lf bytes)

  abbrev l : List ℕ
  l = front is_lf bytes

  module _ (b : ℕ) (n : b ≡ 10 → ⊥) where
    at_first : (past : Past) (begun : List ℕ) → is_blank b ≡ false → outcome_at (At line past begun Start) (b ∷ bytes) ≡ line_by line past.seen begun (b ∷ l) next
    unfolding outcome_at
    at_first past begun e =
        elim (cases_eq b 99) [
          | inl q ↦ rw q (later Comment line past begun tt)
          | inr c ↦ elim (cases_eq b 37) [
            | inl q ↦ rw q refl
            | inr mark ↦ elim (cases_eq b 112) [
              | inl q ↦ rw q (later (InHeader headers.P no_counts) line past begun tt ∙ ap (λ right. header_then line past.seen right (next true begun)) (header_of_line l))
              | inr p ↦ rw (word_number b line past begun false n e (λ f. (c, mark, p)), kind_of_tokens b l e c mark p, outcome_at)
                  (later (InNumber (begun_by b)) line past begun tt ∙ word-then line begun b l (next true) e)
            ]
          ]
        ]

    at_byte : (p : Place) (past : Past) (begun : List ℕ) → IsFit p past.seen → outcome_at (At line past begun p) (b ∷ bytes) ≡ rest_of_line p line past.seen begun (b ∷ l) next
    unfolding outcome_at
    at_byte Start past begun fit = elim (cases_Bool (is_blank b)) [
      | inl e ↦ rw (word_blank b line past begun false n e, outcome_at) (later Start line past begun tt ∙ line_by-blank line past.seen begun b l next e)
      | inr e ↦ at_first past begun e
    ]
    at_byte Between past begun fit = elim (cases_Bool (is_blank b)) [
      | inl e ↦ rw (word_blank b line past begun true n e, words_of-blank b l e, outcome_at) (later Between line past begun fit)
      | inr e ↦ rw (word_number b line past begun true n e (λ f. absurd cc), outcome_at) (later (InNumber (begun_by b)) line past begun tt ∙ word-then line begun b l (next true) e)
    ]
    at_byte Comment past begun fit = rw (ne_eqb b 10 n, outcome_at) (later Comment line past begun tt)
    at_byte (InHeader h counts) past begun fit = rw (ne_eqb b 10 n, outcome_at) (later (InHeader (header_after h b) (counts_after (header_after h b) counts b)) line past begun tt)
    at_byte (InNumber m) past begun fit = elim (cases_Bool (is_blank b)) [
      | inl e ↦ rw (number_blank b line past begun m n e, e, outcome_at) (number_ends-then (token_of m) line past begun line Between bytes _ (λ now is still. later Between line now still is))
      | inr e ↦ rw (number_goes b line past begun m n e, e, outcome_at) (later (InNumber (number_after m b)) line past begun tt)
    ]

agrees : (bytes : List ℕ) → Agrees bytes
unfolding outcome_at lines_from
agrees [] p line past begun fit = at_end-rest p line past begun
agrees (b ∷ bytes) p line past begun fit =
    elim (cases_eq b 10) [
      | inl q ↦ rw q (at_lf bytes (agrees bytes) line p past begun fit)
      | inr n ↦ rw (ne_eqb b 10 n) (at_byte bytes (agrees bytes) line b n p past begun fit)
    ]

pub bytes_are_lines : (text : List ℕ) → outcome_at start text ≡ outcome_of text
unfolding lines_from
bytes_are_lines text = agrees text Start 1 nothing_past [] tt ∙ rw (slice_split-front is_lf text) refl
