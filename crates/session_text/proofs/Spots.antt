-- Spots in a line of text, and what the rest of a line gives there.
use Rattle.std.proofs.Common.{◌≡◌, ℕ, ◌+◌, ◌-◌, ◌*◌, ◌^◌, ◌≤◌, min, Bool, true, false, cond, List, [], ◌∷◌, Some, Err, refl, ap, arith, inl, inr}
use Rattle.std.specs.Prelude.{◌&&◌, ◌==◌, not, codes, None, filter}
use Rattle.std.proofs.lemmas.Bool.{cases_Bool, cases_lt, le-ltb, lt-ltb, ne_eqb}
use Rattle.std.proofs.lemmas.Bool.Decides.{nat_tests}
use Rattle.sat_formula.specs.Bytes.{is_blank, is_digit}
use Rattle.sat_formula.specs.Lines.{has_bytes, value_from, value_of, words_of}
use Rattle.sat_formula.proofs.Lines.{front, others}
use Rattle.session_text.specs.declared.fault.TextKind.TheVariants as kinds
use Rattle.session_text.specs.declared.format.Form.{Form}
use Rattle.session_text.specs.declared.format.Form.TheVariants as forms
use Rattle.session_text.specs.declared.format.Format.{Format}
use Rattle.session_text.specs.declared.line.Status.{Status}
use Rattle.session_text.specs.declared.line.Status.TheVariants as statuses
use Rattle.session_text.specs.declared.said.Said.{Said}
use Rattle.session_text.specs.declared.spot.Due.{Due}
use Rattle.session_text.specs.declared.spot.Due.TheVariants as dues
use Rattle.session_text.specs.declared.spot.Place.{Place}
use Rattle.session_text.specs.declared.spot.Place.TheVariants.{AfterS, BeforeWord, Between, Comment, Digits, Done, Group, Letter, LineStart, Sign, Word}
use Rattle.session_text.specs.declared.spot.Place.TheVariants as places
use Rattle.session_text.specs.declared.spot.Spot.{Spot}
use Rattle.session_text.specs.Content.{Content, no_content}
use Rattle.session_text.specs.Fields.{header, number_said}
use Rattle.session_text.specs.Numbers.{id_said, lit_said}
use Rattle.session_text.specs.Statuses.{word_of}
use Rattle.session_text.specs.Texts.{Header, Holds, LineSaid, Nothing, Wrong, after_letter, after_s, answered, line_said, number_of, number_then, numbers_from, only, status_said}
use Rattle.session_text.specs.automaton.Places.{is_binary_in, is_untold_in}
use Rattle.session_text.proofs.Words.{header_left, is_whole, left_is, left-whole, tail_of, turned, turned-short}

-- ---- spots in a line of text

abbrev pub form_of : Bool → Form
form_of told = cond told forms.Text forms.Untold

pub no_binary : (told : Bool) → is_binary_in (form_of told) ≡ false
no_binary true = refl
no_binary false = refl

pub is_untold : (told : Bool) → is_untold_in (form_of told) ≡ not told
is_untold true = refl
is_untold false = refl

-- numbers are in lines that were told to be text
abbrev pub told_in : Place → Bool → Bool
told_in LineStart told = told
told_in Comment told = told
told_in (places.Header read) told = told
told_in (Letter due) told = told
told_in (Between due) told = true
told_in (Sign due) told = true
told_in (Digits due negative v) told = true
told_in (Group due v weight) told = told
told_in AfterS told = told
told_in BeforeWord told = told
told_in (Word status read) told = told
told_in (Done kind) told = told

-- in a line that is begun no header is due
abbrev pub headed_in : Place → Bool → Bool
headed_in LineStart headed = headed
headed_in Comment headed = headed
headed_in (places.Header read) headed = headed
headed_in (Letter due) headed = true
headed_in (Between due) headed = true
headed_in (Sign due) headed = true
headed_in (Digits due negative v) headed = true
headed_in (Group due v weight) headed = true
headed_in AfterS headed = true
headed_in BeforeWord headed = true
headed_in (Word status read) headed = true
headed_in (Done None) headed = headed
headed_in (Done (Some kind)) headed = true

-- nothing stands in it yet
abbrev pub so_far : Place → Content → Content
so_far LineStart c = no_content
so_far Comment c = no_content
so_far (places.Header read) c = no_content
so_far (Letter due) c = no_content
so_far (Between due) c = c
so_far (Sign due) c = c
so_far (Digits due negative v) c = c
so_far (Group due v weight) c = c
so_far AfterS c = no_content
so_far BeforeWord c = no_content
so_far (Word status read) c = no_content
so_far (Done None) c = no_content
so_far (Done (Some kind)) c = c

abbrev pub at : Format → ℕ → Bool → Bool → Place → Spot
at format line headed told p = record {
  format = format;
  form = form_of (told_in p told);
  line = line;
  headed = headed_in p headed;
  place = p;
}

-- of text
abbrev pub is_of_text : Place → Bool
is_of_text (Group due v weight) = false
is_of_text _ = true

-- a line is open
abbrev pub is_inner : Place → Bool
is_inner LineStart = false
is_inner Comment = false
is_inner _ = true

-- the byte tells that lines are in binary
abbrev pub turns_binary : Bool → ℕ → Place → Bool
turns_binary told b (Letter due) = not told && not (b == 32)
turns_binary told b _ = false

-- ---- numbers, of which the reader keeps only that they are large if they are

lit-large : (negative : Bool) (v : ℕ) → 2 ^ 60 ≤ v → lit_said negative v ≡ Err kinds.NumberTooLarge
lit-large negative v large = rw (ne_eqb v 0 (λ z. omega arith), lt-ltb (2 ^ 28) v (omega arith)) refl

id-large : (negative : Bool) (v u : ℕ) → 2 ^ 60 ≤ v → 2 ^ 60 ≤ u → id_said negative v ≡ id_said negative u
id-large true v u large also = refl
id-large false v u large also = rw (le-ltb v (2 ^ 60) large, le-ltb u (2 ^ 60) also) refl

said-large : (due : Due) (negative : Bool) (v u : ℕ) → 2 ^ 60 ≤ v → 2 ^ 60 ≤ u → number_said due negative v ≡ number_said due negative u
said-large (dues.Lit kind) negative v u large also = rw (lit-large negative v large, lit-large negative u also) refl
said-large (dues.Hint kind) negative v u large also = rw (id-large negative v u large also) refl
said-large (dues.Id kind) negative v u large also = rw (id-large negative v u large also) refl
said-large dues.Count negative v u large also = rw (id-large negative v u large also) refl

said-alike : (due : Due) (negative : Bool) (v u : ℕ) → min v (2 ^ 60) ≡ min u (2 ^ 60) → number_said due negative v ≡ number_said due negative u
said-alike due negative v u e =
    elim (cases_lt v (2 ^ 60)) [
      | inl small ↦ let same : v ≡ u = omega arith in ap (λ (n : ℕ). number_said due negative n) same
      | inr large ↦ let also : 2 ^ 60 ≤ u = omega arith in said-large due negative v u large also
    ]

pub number-alike : (due : Due) (negative : Bool) (v u : ℕ) (bytes : List ℕ) → min v (2 ^ 60) ≡ min u (2 ^ 60) → number_of due negative (value_from v bytes) ≡ number_of due negative (value_from u bytes)
number-alike due negative v u [] e = said-alike due negative v u e
number-alike due negative v u (d ∷ bytes) e =
    elim (cases_Bool (is_digit d)) [
      | inl t ↦ rw t (number-alike due negative (v * 10 + (d - 48)) (u * 10 + (d - 48)) bytes (omega arith))
      | inr t ↦ rw t refl
    ]

pub digit-blank : (b : ℕ) → is_digit b ≡ true → is_blank b ≡ false
digit-blank b e = grind (arith, nat_tests)

-- ---- what the rest of a line gives at each place in it

-- the words after the one that is open
abbrev pub words_after : List ℕ → List (List ℕ)
words_after l = filter has_bytes (others is_blank l)

abbrev pub number_rest : Content → Said → List (List ℕ) → LineSaid
number_rest c said ws = number_then c said ws (λ more still. numbers_from more still ws)

-- what is open of a word, and the words after it
abbrev pub word_rest : Bool → Status → ℕ → List ℕ → List (List ℕ) → LineSaid
word_rest told statuses.Satisfiable read f ws = cond (left_is f (tail_of (codes "SATISFIABLE") read)) (only ws (answered told statuses.Satisfiable)) (Wrong kinds.Malformed)
word_rest told statuses.Unsatisfiable read f ws =
    cond (left_is f (tail_of (codes "UNSATISFIABLE") read)) (only ws (answered told statuses.Unsatisfiable))
    (cond (turned read f) (only ws (answered told statuses.Unknown)) (Wrong kinds.Malformed))
word_rest told statuses.Unknown read f ws = cond (left_is f (tail_of (codes "UNKNOWN") read)) (only ws (answered told statuses.Unknown)) (Wrong kinds.Malformed)

-- a word that ends is whole or not
pub short_rest : (told : Bool) (status : Status) (read : ℕ) (ws : List (List ℕ)) → is_whole (tail_of (word_of status) read) ≡ false → word_rest told status read [] ws ≡ Wrong kinds.Malformed
short_rest told statuses.Satisfiable read ws w = rw (left-whole (tail_of (codes "SATISFIABLE") read), w) refl
short_rest told statuses.Unknown read ws w = rw (left-whole (tail_of (codes "UNKNOWN") read), w) refl
short_rest told statuses.Unsatisfiable read ws w = rw (left-whole (tail_of (codes "UNSATISFIABLE") read), w, turned-short read) refl

pub whole_rest : (told : Bool) (status : Status) (read : ℕ) (ws : List (List ℕ)) → is_whole (tail_of (word_of status) read) ≡ true → word_rest told status read [] ws ≡ only ws (answered told status)
whole_rest told statuses.Satisfiable read ws w = rw (left-whole (tail_of (codes "SATISFIABLE") read), w) refl
whole_rest told statuses.Unknown read ws w = rw (left-whole (tail_of (codes "UNKNOWN") read), w) refl
whole_rest told statuses.Unsatisfiable read ws w = rw (left-whole (tail_of (codes "UNSATISFIABLE") read), w) refl

abbrev pub rest : Format → Bool → Bool → Place → Content → List ℕ → LineSaid
rest format headed told LineStart c l = line_said format headed told l
rest format headed told Comment c l = Nothing
rest format headed told (places.Header read) c l = header_left (tail_of (header format) read) l
rest format headed told (Letter due) c l = after_letter told due l
rest format headed told (Between due) c l = numbers_from due c (words_of l)
rest format headed told (Sign due) c l = number_rest c (number_of due true (value_of (front is_blank l))) (words_after l)
rest format headed told (Digits due negative v) c l = number_rest c (number_of due negative (value_from v (front is_blank l))) (words_after l)
rest format headed told (Group due v weight) c l = Nothing
rest format headed told AfterS c l = after_s told l
rest format headed told BeforeWord c l = status_said told (words_of l)
rest format headed told (Word status read) c l = word_rest told status read (front is_blank l) (words_after l)
rest format headed told (Done None) c l = only (words_of l) Header
rest format headed told (Done (Some kind)) c l = only (words_of l) (Holds told (record { kind = kind; content = c }))
