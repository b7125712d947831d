-- Byte after byte a text says what its lines say.
use Rattle.std.proofs.Common.{◌≡◌, ℕ, Bool, true, false, List, [], ◌∷◌, Some, refl, sym, ap, ◌∙◌, inl, inr}
use Rattle.std.specs.Prelude.{◌&&◌, ◌==◌, not, Option, None}
use Rattle.std.specs.List.{slice_split, join_with_byte}
use Rattle.std.proofs.lemmas.Bool.{cases_Bool, cases_eq, ne_eqb}
use Rattle.std.proofs.lemmas.List.Splits.{join_with_byte-slice_split}
use Rattle.sat_formula.specs.Bytes.{is_lf}
use Rattle.sat_formula.specs.Outcome.{next_line}
use Rattle.sat_formula.proofs.Lines.{front, others, slice_split-front}
use Rattle.session_text.specs.declared.format.Format.{Format}
use Rattle.session_text.specs.declared.format.Format.TheVariants as formats
use Rattle.session_text.specs.declared.line.Status.{Status}
use Rattle.session_text.specs.declared.said.Said.{Said}
use Rattle.session_text.specs.declared.said.Said.TheVariants as says
use Rattle.session_text.specs.declared.spot.Due.{Due}
use Rattle.session_text.specs.declared.spot.Due.TheVariants as dues
use Rattle.session_text.specs.declared.spot.Place.{Place}
use Rattle.session_text.specs.declared.spot.Place.TheVariants.{AfterS, BeforeWord, Between, Comment, Digits, Done, Group, Letter, LineStart, Sign, Word}
use Rattle.session_text.specs.declared.spot.Place.TheVariants as places
use Rattle.session_text.specs.Binary.{Number, binary_from}
use Rattle.session_text.specs.Content.{Content, no_content}
use Rattle.session_text.specs.Fields.{header, number_said}
use Rattle.session_text.specs.Outcomes.{Faulty, Outcome, with_line}
use Rattle.session_text.specs.Statuses.{word_of}
use Rattle.session_text.specs.Texts.{Bytes, Header, Holds, LineSaid, Nothing, Wrong, after_letter, line_then, lines_from, numbers_from, outcome_of}
use Rattle.session_text.specs.automaton.Places.{after, unended}
use Rattle.session_text.specs.automaton.Texts.{outcome_at, outcome_read}
use Rattle.session_text.proofs.BinaryLines.{binary_read, in_binary}
use Rattle.session_text.proofs.Steps.{byte_read, leads, on, on_line, unended-leads, unfinished}
use Rattle.session_text.proofs.Words.{header_left, is_whole, tail_of}
use Rattle.session_text.proofs.Spots.{at, is_inner, is_of_text, is_untold, no_binary, number_rest, rest, short_rest, so_far, turns_binary, whole_rest, word_rest}
use Rattle.session_text.proofs.LineEnds.{at_lf, lf_then}
use Rattle.session_text.proofs.LineBytes.{at_byte}

-- ---- lines in binary

-- the bytes of a text, from an open line on
joined : (bytes : List ℕ) → join_with_byte 10 (front is_lf bytes ∷ others is_lf bytes) ≡ bytes
joined bytes = ap (join_with_byte 10) (sym (slice_split-front is_lf bytes)) ∙ join_with_byte-slice_split 10 bytes

told_binary : (format : Format) (line : ℕ) (headed told : Bool) (due : Due) (b : ℕ) → (not told && not (b == 32)) ≡ true → after (at format line headed told (Letter due)) b ≡ after (in_binary format line (Group due 0 1)) b
unfolding after
told_binary format line headed told due b t = rw (is_untold told, t) refl

-- the text in binary begins with this byte
binary_byte : (format : Format) (line : ℕ) (headed told : Bool) (due : Due) (b : ℕ) (bytes : List ℕ) → (not told && not (b == 32)) ≡ true →
    outcome_at no_content (at format line headed told (Letter due)) (b ∷ bytes) ≡ binary_from format line (Number due no_content 0 1) (b ∷ bytes)
binary_byte format line headed told due b bytes t =
    byte_read no_content (at format line headed told (Letter due)) b bytes
    ∙ ap (leads (on bytes) (on_line bytes) no_content line) (told_binary format line headed told due b t)
    ∙ sym (byte_read no_content (in_binary format line (Group due 0 1)) b bytes)
    ∙ binary_read format (b ∷ bytes) line (Number due no_content 0 1) refl

-- the byte after the letter tells that, and the lines behind are those of the bytes
turned_binary : (format : Format) (line : ℕ) (headed told : Bool) (p : Place) (c : Content) (b : ℕ) (bytes : List ℕ) (next : Bool → Bool → Outcome) → turns_binary told b p ≡ true →
    outcome_at (so_far p c) (at format line headed told p) (b ∷ bytes)
    ≡ line_then format line headed told (rest format headed told p c (front is_lf (b ∷ bytes))) (others is_lf (b ∷ bytes)) next
turned_binary format line headed told (Letter due) c b bytes next t =
    binary_byte format line headed told due b bytes t ∙ sym (elim (cases_eq b 10) [
      | inl q ↦ let untold : told ≡ false = by_not told (b == 32) t in rw (q, untold) (ap (binary_from format line (Number due no_content 0 1)) (lf_joined bytes))
      | inr n ↦ rw (ne_eqb b 10 n, t) (ap (binary_from format line (Number due no_content 0 1)) (ap (join_with_byte 10) (sym (front_more b bytes n)) ∙ joined (b ∷ bytes)))
    ])
  where
    by_not : (t s : Bool) → (not t && not s) ≡ true → t ≡ false
    by_not true s e = absurd cc
    by_not false s e = refl

    lf_joined : (bytes : List ℕ) → join_with_byte 10 ([] ∷ slice_split is_lf bytes) ≡ 10 ∷ bytes
    lf_joined bytes = joined (10 ∷ bytes)

    front_more : (b : ℕ) (bytes : List ℕ) → (b ≡ 10 → ⊥) → front is_lf (b ∷ bytes) ∷ others is_lf (b ∷ bytes) ≡ (b ∷ front is_lf bytes) ∷ others is_lf bytes
    front_more b bytes n = rw (ne_eqb b 10 n) refl
turned_binary format line headed told LineStart c b bytes next t = absurd cc
turned_binary format line headed told Comment c b bytes next t = absurd cc
turned_binary format line headed told (places.Header read) c b bytes next t = absurd cc
turned_binary format line headed told (Between due) c b bytes next t = absurd cc
turned_binary format line headed told (Sign due) c b bytes next t = absurd cc
turned_binary format line headed told (Digits due negative v) c b bytes next t = absurd cc
turned_binary format line headed told (Group due v weight) c b bytes next t = absurd cc
turned_binary format line headed told AfterS c b bytes next t = absurd cc
turned_binary format line headed told BeforeWord c b bytes next t = absurd cc
turned_binary format line headed told (Word status read) c b bytes next t = absurd cc
turned_binary format line headed told (Done kind) c b bytes next t = absurd cc

-- ---- the text

abbrev Agrees : List ℕ → Type 0
Agrees bytes = (format : Format) (p : Place) (line : ℕ) (c : Content) (headed told : Bool) → is_of_text p ≡ true →
    outcome_at (so_far p c) (at format line headed told p) bytes
    ≡ line_then format line headed told (rest format headed told p c (front is_lf bytes)) (others is_lf bytes) (λ now still. lines_from format now still line (others is_lf bytes))

next_lines : (bytes : List ℕ) → Agrees bytes → (format : Format) (line : ℕ) (headed told : Bool) →
    outcome_at no_content (at format (next_line line) headed told LineStart) bytes ≡ lines_from format headed told line (slice_split is_lf bytes)
unfolding lines_from
next_lines bytes later format line headed told =
    later format LineStart (next_line line) no_content headed told refl ∙ rw (slice_split-front is_lf bytes) refl

-- behind an LF
lf_next : (bytes : List ℕ) → Agrees bytes → (format : Format) (line : ℕ) (headed told : Bool) (said : LineSaid) →
    lf_then format line headed told (on bytes) (on_line bytes) (lines_from format headed told line (slice_split is_lf bytes))
    (λ due bs. binary_from format line (Number due no_content 0 1) (join_with_byte 10 (bs ∷ slice_split is_lf bytes))) said
    ≡ line_then format line headed told said (slice_split is_lf bytes) (λ now still. lines_from format now still line (slice_split is_lf bytes))
lf_next bytes later format line headed told Nothing = refl
lf_next bytes later format line headed told Header = next_lines bytes later format line true told ∙ rw (slice_split-front is_lf bytes) refl
lf_next bytes later format line headed told (Holds still l) = ap (with_line l) (next_lines bytes later format line true still) ∙ rw (slice_split-front is_lf bytes) refl
lf_next bytes later format line headed told (Bytes due bs) = refl
lf_next bytes later format line headed told (Wrong kind) = refl

inner_feed : (bytes : List ℕ) → Agrees bytes → (format : Format) (p : Place) (line : ℕ) (c : Content) (headed told : Bool) → is_of_text p ≡ true → is_inner p ≡ true → turns_binary told 10 p ≡ false →
    leads (on bytes) (on_line bytes) (so_far p c) line (after (at format line headed told p) 10)
    ≡ line_then format line headed told (rest format headed told p c []) (slice_split is_lf bytes) (λ now still. lines_from format now still line (slice_split is_lf bytes))
inner_feed bytes later format p line c headed told x i t =
    at_lf format line headed told (on bytes) (on_line bytes) (lines_from format headed told line (slice_split is_lf bytes))
    (λ due bs. binary_from format line (Number due no_content 0 1) (join_with_byte 10 (bs ∷ slice_split is_lf bytes))) p c x i t
    ∙ lf_next bytes later format line headed told (rest format headed told p c [])

at_line_feed : (bytes : List ℕ) → Agrees bytes → (format : Format) (p : Place) (line : ℕ) (c : Content) (headed told : Bool) → is_of_text p ≡ true → turns_binary told 10 p ≡ false →
    leads (on bytes) (on_line bytes) (so_far p c) line (after (at format line headed told p) 10)
    ≡ line_then format line headed told (rest format headed told p c []) (slice_split is_lf bytes) (λ now still. lines_from format now still line (slice_split is_lf bytes))
unfolding after
at_line_feed bytes later format LineStart line c headed told x t = rw (no_binary told) (next_lines bytes later format line headed told)
at_line_feed bytes later format Comment line c headed told x t = next_lines bytes later format line headed told
at_line_feed bytes later format (places.Header read) line c headed told x t = inner_feed bytes later format (places.Header read) line c headed told x refl t
at_line_feed bytes later format (Letter due) line c headed told x t = inner_feed bytes later format (Letter due) line c headed told x refl t
at_line_feed bytes later format (Between due) line c headed told x t = inner_feed bytes later format (Between due) line c headed told x refl t
at_line_feed bytes later format (Sign due) line c headed told x t = inner_feed bytes later format (Sign due) line c headed told x refl t
at_line_feed bytes later format (Digits due negative v) line c headed told x t = inner_feed bytes later format (Digits due negative v) line c headed told x refl t
at_line_feed bytes later format (Group due v weight) line c headed told x t = absurd cc
at_line_feed bytes later format AfterS line c headed told x t = inner_feed bytes later format AfterS line c headed told x refl t
at_line_feed bytes later format BeforeWord line c headed told x t = inner_feed bytes later format BeforeWord line c headed told x refl t
at_line_feed bytes later format (Word status read) line c headed told x t = inner_feed bytes later format (Word status read) line c headed told x refl t
at_line_feed bytes later format (Done kind) line c headed told x t = inner_feed bytes later format (Done kind) line c headed told x refl t

-- ---- the end of the text

-- what it makes of the last line
ended_as : (format : Format) (line : ℕ) (headed told : Bool) (said : LineSaid) → (said ≡ Nothing → ⊥) →
    lf_then format line headed told (λ c s. unfinished line) (λ l s. unfinished line) (unfinished line) (λ due bs. binary_from format line (Number due no_content 0 1) bs) said
    ≡ line_then format line headed told said [] (λ now still. lines_from format now still line [])
ended_as format line headed told Nothing n = absurd (n refl)
ended_as format line headed told Header n = refl
ended_as format line headed told (Holds still l) n = refl
ended_as format line headed told (Bytes due bs) n = refl
ended_as format line headed told (Wrong kind) n = refl

-- an open line says something
numbers_say : (due : Due) (c : Content) (said : Said) → number_rest c said [] ≡ Nothing → ⊥
unfolding numbers_from
numbers_say due c (says.Next item more) e = absurd cc
numbers_say due c (says.Turns more) e = absurd cc
numbers_say due c (says.Last kind) e = absurd cc
numbers_say due c (says.Wrong kind) e = absurd cc

header_says : (t : Option (List ℕ)) → header_left t [] ≡ Nothing → ⊥
header_says None e = absurd cc
header_says (Some []) e = absurd cc
header_says (Some (x ∷ w)) e = absurd cc

word_says : (told : Bool) (status : Status) (read : ℕ) → word_rest told status read [] [] ≡ Nothing → ⊥
word_says told status read e = elim (cases_Bool (is_whole (tail_of (word_of status) read))) [
  | inl w ↦ let bad = sym (whole_rest told status read [] w) ∙ e in absurd cc
  | inr w ↦ let bad = sym (short_rest told status read [] w) ∙ e in absurd cc
]

letter_says : (told : Bool) (due : Due) → after_letter told due [] ≡ Nothing → ⊥
letter_says true due e = absurd cc
letter_says false due e = absurd cc

open_says : (format : Format) (headed told : Bool) (p : Place) (c : Content) → is_of_text p ≡ true → is_inner p ≡ true → rest format headed told p c [] ≡ Nothing → ⊥
unfolding numbers_from
open_says format headed told LineStart c x i e = absurd cc
open_says format headed told Comment c x i e = absurd cc
open_says format headed told (places.Header read) c x i e = header_says (tail_of (header format) read) e
open_says format headed told (Letter due) c x i e = letter_says told due e
open_says format headed told (Between due) c x i e = absurd cc
open_says format headed told (Sign due) c x i e = absurd cc
open_says format headed told (Digits due negative v) c x i e = numbers_say due c (number_said due negative v) e
open_says format headed told (Group due v weight) c x i e = absurd cc
open_says format headed told AfterS c x i e = absurd cc
open_says format headed told BeforeWord c x i e = absurd cc
open_says format headed told (Word status read) c x i e = word_says told status read e
open_says format headed told (Done None) c x i e = absurd cc
open_says format headed told (Done (Some kind)) c x i e = absurd cc

abbrev AtTheEnd : Format → Place → ℕ → Content → Bool → Bool → Type 0
AtTheEnd format p line c headed told = outcome_at (so_far p c) (at format line headed told p) []
    ≡ line_then format line headed told (rest format headed told p c []) [] (λ now still. lines_from format now still line [])

inner_end : (format : Format) (p : Place) (line : ℕ) (c : Content) (headed told : Bool) → is_of_text p ≡ true → is_inner p ≡ true → turns_binary told 10 p ≡ false →
    ([], Faulty line (unended (after (at format line headed told p) 10)))
    ≡ line_then format line headed told (rest format headed told p c []) [] (λ now still. lines_from format now still line [])
inner_end format p line c headed told x i t =
    unended-leads (so_far p c) line (after (at format line headed told p) 10)
    ∙ at_lf format line headed told (λ c s. unfinished line) (λ l s. unfinished line) (unfinished line) (λ due bs. binary_from format line (Number due no_content 0 1) bs) p c x i t
    ∙ ended_as format line headed told (rest format headed told p c []) (open_says format headed told p c x i)

letter_end : (format : Format) (due : Due) (line : ℕ) (c : Content) (headed told : Bool) → AtTheEnd format (Letter due) line c headed told
unfolding outcome_at after binary_from
letter_end format due line c headed true = inner_end format (Letter due) line c headed true refl refl refl
letter_end format (dues.Lit kind) line c headed false = refl
letter_end format (dues.Hint kind) line c headed false = refl
letter_end format (dues.Id kind) line c headed false = refl
letter_end format dues.Count line c headed false = refl

text_end : (format : Format) (p : Place) (line : ℕ) (c : Content) (headed told : Bool) → is_of_text p ≡ true → AtTheEnd format p line c headed told
unfolding outcome_at lines_from
text_end format LineStart line c true told x = refl
text_end format LineStart line c false told x = refl
text_end format Comment line c true told x = refl
text_end format Comment line c false told x = refl
text_end format (places.Header read) line c headed told x = rw (no_binary told) (inner_end format (places.Header read) line c headed told x refl refl)
text_end format (Letter due) line c headed told x = letter_end format due line c headed told
text_end format (Between due) line c headed told x = inner_end format (Between due) line c headed told x refl refl
text_end format (Sign due) line c headed told x = inner_end format (Sign due) line c headed told x refl refl
text_end format (Digits due negative v) line c headed told x = inner_end format (Digits due negative v) line c headed told x refl refl
text_end format (Group due v weight) line c headed told x = absurd cc
text_end format AfterS line c headed told x = rw (no_binary told) (inner_end format AfterS line c headed told x refl refl)
text_end format BeforeWord line c headed told x = rw (no_binary told) (inner_end format BeforeWord line c headed told x refl refl)
text_end format (Word status read) line c headed told x = rw (no_binary told) (inner_end format (Word status read) line c headed told x refl refl)
text_end format (Done kind) line c headed told x = rw (no_binary told) (inner_end format (Done kind) line c headed told x refl refl)

-- ---- all bytes

other_byte : (b : ℕ) (bytes : List ℕ) → Agrees bytes → (format : Format) (p : Place) (line : ℕ) (c : Content) (headed told : Bool) → is_of_text p ≡ true → turns_binary told b p ≡ false →
    leads (on bytes) (on_line bytes) (so_far p c) line (after (at format line headed told p) b)
    ≡ line_then format line headed told (rest format headed told p c (front is_lf (b ∷ bytes))) (others is_lf (b ∷ bytes)) (λ now still. lines_from format now still line (others is_lf (b ∷ bytes)))
other_byte b bytes later format p line c headed told x t = elim (cases_eq b 10) [
  | inl q ↦ rw q (at_line_feed bytes later format p line c headed told x (rw q at t))
  | inr n ↦ rw (ne_eqb b 10 n) (at_byte format line (on bytes) (on_line bytes) (front is_lf bytes) (others is_lf bytes) (λ now still. lines_from format now still line (others is_lf bytes))
      (λ q d h u y. later format q line d h u y) b n p c headed told x t)
]

agrees : (bytes : List ℕ) → Agrees bytes
agrees [] format p line c headed told x = text_end format p line c headed told x
agrees (b ∷ bytes) format p line c headed told x = elim (cases_Bool (turns_binary told b p)) [
  | inl t ↦ turned_binary format line headed told p c b bytes (λ now still. lines_from format now still line (others is_lf (b ∷ bytes))) t
  | inr t ↦ byte_read (so_far p c) (at format line headed told p) b bytes ∙ other_byte b bytes (agrees bytes) format p line c headed told x t
]

from_start : (format : Format) (told : Bool) (text : List ℕ) → outcome_at no_content (at format 1 false told LineStart) text ≡ lines_from format false told 0 (slice_split is_lf text)
from_start format told text = next_lines text (agrees text) format 0 false told

pub are_lines : (format : Format) (text : List ℕ) → outcome_read format text ≡ outcome_of format text
are_lines formats.Icnf text = from_start formats.Icnf true text
are_lines formats.Lidrup text = from_start formats.Lidrup false text
