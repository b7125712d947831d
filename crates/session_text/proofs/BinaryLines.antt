-- A proof in binary is read as its definition says.
use Rattle.std.proofs.Common.{◌≡◌, ℕ, ◌+◌, ◌*◌, ◌^◌, Bool, true, false, List, [], ◌∷◌, length, refl, sym, ap, ◌∙◌, inl, inr}
use Rattle.std.specs.Prelude.{◌==◌, nat_lt, not, Option, None, Some}
use Rattle.std.proofs.lemmas.Bool.{cases_Bool}
use Rattle.sat_formula.specs.Bytes.{is_blank, is_lf}
use Rattle.sat_formula.specs.Digits.{ends_word}
use Rattle.sat_formula.specs.Outcome.{next_line}
use Rattle.session_text.specs.declared.format.Form.TheVariants as forms
use Rattle.session_text.specs.declared.format.Format.{Format}
use Rattle.session_text.specs.declared.format.Format.TheVariants as formats
use Rattle.session_text.specs.declared.line.LineKind.TheVariants.{Answer}
use Rattle.session_text.specs.declared.line.Status.{Status}
use Rattle.session_text.specs.declared.line.Status.TheVariants as statuses
use Rattle.session_text.specs.declared.said.Said.{Said}
use Rattle.session_text.specs.declared.said.Said.TheVariants as says
use Rattle.session_text.specs.declared.spot.Due.{Due}
use Rattle.session_text.specs.declared.spot.Place.{Place}
use Rattle.session_text.specs.declared.spot.Place.TheVariants as places
use Rattle.session_text.specs.declared.spot.Spot.{Spot}
use Rattle.session_text.specs.Binary.{Did, Holds, Off, On, Part, Letter, BeforeWord, Word, Number, begun, binary_from, number_on, part_after}
use Rattle.session_text.specs.Content.{Content, no_content}
use Rattle.session_text.specs.Fields.{due_after, group_said}
use Rattle.session_text.specs.Numbers.{with_group}
use Rattle.session_text.specs.Outcomes.{Faulty, Outcome, with_line}
use Rattle.session_text.specs.Statuses.{is_spelled, turns, word_of}
use Rattle.session_text.specs.automaton.Places.{after, begins, group_read, letter_due}
use Rattle.session_text.specs.automaton.Texts.{outcome_at}
use Rattle.session_text.proofs.Steps.{byte_read, leads, on, on_line}

abbrev pub in_binary : Format → ℕ → Place → Spot
in_binary format line p = record { format = format; form = forms.Binary; line = line; headed = true; place = p }

abbrev pub place_of : Part → Place
place_of Letter = places.LineStart
place_of BeforeWord = places.BeforeWord
place_of (Word status read) = places.Word status read
place_of (Number due c v weight) = places.Group due v weight

abbrev pub content_in : Part → Content
content_in Letter = no_content
content_in BeforeWord = no_content
content_in (Word status read) = no_content
content_in (Number due c v weight) = c

-- a word that is open is not whole
abbrev pub is_open : Part → Bool
is_open Letter = true
is_open BeforeWord = true
is_open (Word status read) = not (read == length (word_of status))
is_open (Number due c v weight) = true

-- after a byte
abbrev did_leads : Format → ℕ → List ℕ → Did → Outcome
did_leads format line bs d = elim d [
  | On q ↦ binary_from format line q bs
  | Holds l ↦ with_line l (binary_from format (next_line line) Letter bs)
  | Off kind ↦ ([], Faulty line kind)
]

-- the reader's letters
pub dues_alike : (format : Format) (b : ℕ) → letter_due format b ≡ due_after format b
dues_alike formats.Icnf b = refl
dues_alike formats.Lidrup b = refl

not-false : (t : Bool) → not t ≡ true → t ≡ false
not-false true e = absurd cc
not-false false e = refl

module _ (format : Format) (line : ℕ) (bs : List ℕ)
    (later : (line : ℕ) (p : Part) → is_open p ≡ true → outcome_at (content_in p) (in_binary format line (place_of p)) bs ≡ binary_from format line p bs)
    (at_s : outcome_at no_content (in_binary format line places.AfterS) bs ≡ binary_from format line BeforeWord bs) where
  begun_leads : (d : Option Due) → leads (on bs) (on_line bs) no_content line (begins (in_binary format line places.LineStart) d) ≡ did_leads format line bs (begun d)
  begun_leads None = refl
  begun_leads (Some due) = later line (Number due no_content 0 1) refl

  number_leads : (due : Due) (c : Content) (v weight : ℕ) (said : Said) → leads (on bs) (on_line bs) c line (group_read (in_binary format line (places.Group due v weight)) said) ≡ did_leads format line bs (number_on c said)
  number_leads due c v weight (says.Next item more) = later line (Number more _ 0 1) refl
  number_leads due c v weight (says.Turns more) = later line (Number more c 0 1) refl
  number_leads due c v weight (says.Last kind) = ap (with_line (record { kind = kind; content = c })) (later (next_line line) Letter refl)
  number_leads due c v weight (says.Wrong kind) = refl

  letter_byte : (b : ℕ) → leads (on bs) (on_line bs) no_content line (after (in_binary format line places.LineStart) b) ≡ did_leads format line bs (part_after format Letter b)
  unfolding after
  letter_byte b = elim (cases_Bool (is_lf b)) [
    | inl e ↦ rw e (later line Letter refl)
    | inr e ↦ rw e (elim (cases_Bool (b == 115)) [
      | inl s ↦ rw s at_s
      | inr s ↦ rw (s, dues_alike format b) (begun_leads (due_after format b))
    ])
  ]

  before_byte : (b : ℕ) → leads (on bs) (on_line bs) no_content line (after (in_binary format line places.BeforeWord) b) ≡ did_leads format line bs (part_after format BeforeWord b)
  unfolding after
  before_byte b = elim (cases_Bool (is_blank b)) [
    | inl e ↦ rw e (later line BeforeWord refl)
    | inr e ↦ rw e (elim (cases_Bool (b == 83)) [
      | inl s ↦ rw s (later line (Word statuses.Satisfiable 1) refl)
      | inr s ↦ rw s (elim (cases_Bool (b == 85)) [ inl u ↦ rw u (later line (Word statuses.Unsatisfiable 1) refl) | inr u ↦ rw u refl ])
    ])
  ]

  word_byte : (status : Status) (read b : ℕ) → (read == length (word_of status)) ≡ false →
      leads (on bs) (on_line bs) no_content line (after (in_binary format line (places.Word status read)) b) ≡ did_leads format line bs (part_after format (Word status read) b)
  unfolding after
  word_byte status read b short = elim (cases_Bool (is_spelled status read b)) [
    | inl e ↦ rw e (elim (cases_Bool (read + 1 == length (word_of status))) [
      | inl w ↦ rw w (ap (with_line (record { kind = Answer status; content = no_content })) (later (next_line line) Letter refl))
      | inr w ↦ rw w (later line (Word status (read + 1)) (rw w refl))
    ])
    | inr e ↦ rw e (elim (cases_Bool (turns status read b)) [
      | inl t ↦ rw t (later line (Word statuses.Unknown 3) refl)
      | inr t ↦ rw (t, short) (elim (cases_Bool (ends_word b)) [ inl x ↦ rw x refl | inr x ↦ rw x refl ])
    ])
  ]

  group_byte : (due : Due) (c : Content) (v weight b : ℕ) →
      leads (on bs) (on_line bs) c line (after (in_binary format line (places.Group due v weight)) b) ≡ did_leads format line bs (part_after format (Number due c v weight) b)
  unfolding after
  group_byte due c v weight b = elim (cases_Bool (nat_lt b 128)) [
    | inl e ↦ rw e (number_leads due c v weight (group_said due (with_group v weight b)))
    | inr e ↦ rw e (elim (cases_Bool (nat_lt weight (2 ^ 56))) [
      | inl w ↦ rw w (later line (Number due c (with_group v weight b) (weight * 128)) refl)
      | inr w ↦ rw w refl
    ])
  ]

  part_byte : (p : Part) (b : ℕ) → is_open p ≡ true →
      leads (on bs) (on_line bs) (content_in p) line (after (in_binary format line (place_of p)) b) ≡ did_leads format line bs (part_after format p b)
  part_byte Letter b o = letter_byte b
  part_byte BeforeWord b o = before_byte b
  part_byte (Word status read) b o = word_byte status read b (not-false (read == length (word_of status)) o)
  part_byte (Number due c v weight) b o = group_byte due c v weight b

-- after an `s` it is as behind a blank
same_byte : (format : Format) (line : ℕ) (b : ℕ) → after (in_binary format line places.AfterS) b ≡ after (in_binary format line places.BeforeWord) b
unfolding after
same_byte format line b = elim (cases_Bool (is_blank b)) [ inl e ↦ rw e refl | inr e ↦ rw e refl ]

s_as_blank : (format : Format) (line : ℕ) (bs : List ℕ) → outcome_at no_content (in_binary format line places.AfterS) bs ≡ outcome_at no_content (in_binary format line places.BeforeWord) bs
unfolding outcome_at
s_as_blank format line [] = refl
s_as_blank format line (b ∷ bs) =
    byte_read no_content (in_binary format line places.AfterS) b bs
    ∙ ap (leads (on bs) (on_line bs) no_content line) (same_byte format line b)
    ∙ sym (byte_read no_content (in_binary format line places.BeforeWord) b bs)

pub binary_read : (format : Format) (bs : List ℕ) (line : ℕ) (p : Part) → is_open p ≡ true → outcome_at (content_in p) (in_binary format line (place_of p)) bs ≡ binary_from format line p bs
unfolding outcome_at binary_from
binary_read format [] line Letter o = refl
binary_read format [] line BeforeWord o = refl
binary_read format [] line (Word status read) o = refl
binary_read format [] line (Number due c v weight) o = refl
binary_read format (b ∷ bs) line p o =
    byte_read (content_in p) (in_binary format line (place_of p)) b bs
    ∙ part_byte format line bs (binary_read format bs) (s_as_blank format line bs ∙ binary_read format bs line BeforeWord refl) p b o
