-- An LF, or the end of a line.
use Rattle.std.proofs.Common.{◌≡◌, ℕ, Bool, true, false, List, [], Some, refl, arith, inl, inr}
use Rattle.std.specs.Prelude.{◌&&◌, ◌==◌, not, None}
use Rattle.std.proofs.lemmas.Bool.{cases_Bool}
use Rattle.sat_formula.specs.Outcome.{next_line}
use Rattle.session_text.specs.declared.format.Format.{Format}
use Rattle.session_text.specs.declared.line.Status.{Status}
use Rattle.session_text.specs.declared.line.Status.TheVariants as statuses
use Rattle.session_text.specs.declared.said.Said.{Said}
use Rattle.session_text.specs.declared.said.Said.TheVariants as says
use Rattle.session_text.specs.declared.spot.Due.{Due}
use Rattle.session_text.specs.declared.spot.Place.{Place}
use Rattle.session_text.specs.declared.spot.Place.TheVariants.{AfterS, BeforeWord, Between, Comment, Digits, Done, Group, Letter, LineStart, Sign, Word}
use Rattle.session_text.specs.declared.spot.Place.TheVariants as places
use Rattle.session_text.specs.declared.spot.Spot.{Spot}
use Rattle.session_text.specs.Content.{Content, no_content}
use Rattle.session_text.specs.Fields.{header, number_said}
use Rattle.session_text.specs.Outcomes.{Faulty, Line, Outcome}
use Rattle.session_text.specs.Statuses.{turns, word_of}
use Rattle.session_text.specs.Texts.{Bytes, Header, Holds, LineSaid, Nothing, Wrong, after_letter, numbers_from}
use Rattle.session_text.specs.automaton.Places.{after, last_read}
use Rattle.session_text.proofs.Steps.{leads}
use Rattle.session_text.proofs.Words.{header_left, header-no_lf, header-short, header-whole, is_next, is_whole, spelled, spelled-letter, tail_of, whole}
use Rattle.session_text.proofs.Spots.{at, is_inner, is_of_text, no_binary, number_rest, rest, short_rest, so_far, turns_binary, whole_rest, word_rest}

-- ---- an LF, or the end of the text

module _ (format : Format) (line : ℕ) (headed told : Bool) (g : Content → Spot → Outcome) (e : Line → Spot → Outcome) (nothing : Outcome) (binary : Due → List ℕ → Outcome) where
  -- after a line that says this
  abbrev pub lf_then : LineSaid → Outcome
  lf_then Nothing = nothing
  lf_then Header = g no_content (at format (next_line line) true told LineStart)
  lf_then (Holds still l) = e l (at format (next_line line) true still LineStart)
  lf_then (Bytes due bs) = binary due bs
  lf_then (Wrong kind) = ([], Faulty line kind)

  abbrev pub lf_leads : Place → Content → Outcome
  lf_leads p c = leads g e (so_far p c) line (after (at format line headed told p) 10)

  number_lf : (due : Due) (negative : Bool) (v : ℕ) (c : Content) (said : Said) →
      leads g e c line (last_read (at format line headed told (Digits due negative v)) said) ≡ lf_then (number_rest c said [])
  unfolding numbers_from
  number_lf due negative v c (says.Next item more) = refl
  number_lf due negative v c (says.Turns more) = refl
  number_lf due negative v c (says.Last kind) = refl
  number_lf due negative v c (says.Wrong kind) = refl

  header_lf : (read : ℕ) (c : Content) → lf_leads (places.Header read) c ≡ lf_then (header_left (tail_of (header format) read) [])
  unfolding after
  header_lf read c =
      rw (spelled (header format) read 10, header-no_lf format read, whole (header format) read) (elim (cases_Bool (is_whole (tail_of (header format) read))) [
        | inl w ↦ rw (w, header-whole [] (tail_of (header format) read) w) refl
        | inr w ↦ rw (w, header-short (tail_of (header format) read) w) refl
      ])

  no_letter : (status : Status) (read : ℕ) → is_next 10 (tail_of (word_of status) read) ≡ false
  no_letter status read = elim (cases_Bool (is_next 10 (tail_of (word_of status) read))) [ inl y ↦ let bad = spelled-letter status read 10 y in absurd cc | inr y ↦ y ]

  no_turn : (status : Status) (read : ℕ) → turns status read 10 ≡ false
  no_turn statuses.Satisfiable read = refl
  no_turn statuses.Unknown read = refl
  no_turn statuses.Unsatisfiable read = elim (cases_Bool (read == 2)) [ inl y ↦ rw y refl | inr y ↦ rw y refl ]

  word_lf : (status : Status) (read : ℕ) (c : Content) → lf_leads (Word status read) c ≡ lf_then (word_rest told status read [] [])
  unfolding after
  word_lf status read c =
      rw (spelled (word_of status) read 10, no_letter status read, no_turn status read, whole (word_of status) read) (elim (cases_Bool (is_whole (tail_of (word_of status) read))) [
        | inl w ↦ rw (w, whole_rest told status read [] w) refl
        | inr w ↦ rw (w, short_rest told status read [] w) refl
      ])

  letter_lf : (due : Due) (c : Content) → (not told && true) ≡ false → lf_leads (Letter due) c ≡ lf_then (after_letter told due [])
  unfolding after
  letter_lf due c t = rw is_true refl
    where
      is_true : told ≡ true
      is_true = grind arith

  pub at_lf : (p : Place) (c : Content) → is_of_text p ≡ true → is_inner p ≡ true → turns_binary told 10 p ≡ false → lf_leads p c ≡ lf_then (rest format headed told p c [])
  unfolding after numbers_from
  at_lf LineStart c x i t = absurd cc
  at_lf Comment c x i t = absurd cc
  at_lf (places.Header read) c x i t = header_lf read c
  at_lf (Letter due) c x i t = letter_lf due c t
  at_lf (Between due) c x i t = refl
  at_lf (Sign due) c x i t = refl
  at_lf (Digits due negative v) c x i t = number_lf due negative v c (number_said due negative v)
  at_lf (Group due v weight) c x i t = absurd cc
  at_lf AfterS c x i t = rw (no_binary told) refl
  at_lf BeforeWord c x i t = refl
  at_lf (Word status read) c x i t = word_lf status read c
  at_lf (Done None) c x i t = refl
  at_lf (Done (Some kind)) c x i t = refl
