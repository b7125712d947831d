-- From the answers of many calls to the notes of a whole text, for the crates above.
use Rattle.std.proofs.Common.{◌≡◌, ℕ, Bool, true, false, List, [], ◌∷◌, ◌++◌, Option, Some, None, Ok, refl, sym, ap, ◌∙◌, append-nil, append_assoc}
use Rattle.std.specs.Prelude.{IfSome, if◌then◌else◌, map}
use Rattle.std.specs.Option.{option_map}
use Rattle.sat_formula.specs.declared.dimacs.DimacsReader.{DimacsReader}
use Rattle.sat_formula.specs.declared.past.Past.{Past}
use Rattle.sat_formula.specs.DimacsReader.{has_ended, unread_of, standing}
use Rattle.sat_formula.specs.Reading.{GivesClause, more, last}
use Rattle.sat_formula.specs.Taking.{Finishes, by_byte, by_input}
use Rattle.sat_formula.specs.Outcome.{Ending, Ended, Outcome}
use Rattle.sat_formula.specs.Text.{State, past_of, Next, Clause, Stopped, Waits, next_at, at_end, past_at_end, start}
use Rattle.sat_formula.specs.Notes.{Notes, with_line, last_notes, notes_at, notes_of}
use Rattle.sat_formula.specs.Noting.{notes_left, BeginsOn, IsNotes, HasNoted}
use Rattle.sat_formula.specs.Readings.{Known}
use Rattle.sat_formula.proofs.Readings.{leads_all, leads_by, said_on, ends_all, ends_as, ends_by}
use Rattle.sat_formula.proofs.Whole.{AfterEnd, Reads, says_next}

-- ---- one call

-- all that a text says, from what it gives next
abbrev noted : Next → Notes
noted (Clause clause t rest) = with_line (past_of t).clause_line (notes_at t rest)
noted (Stopped past e) = ([], past)
noted (Waits t) = last_notes t

notes_next : (s : State) (text : List ℕ) → notes_at s text ≡ noted (next_at s text)
unfolding notes_at
notes_next = says_next notes_at noted (λ s. refl) (λ s b bs. refl)

-- the notes of an ending, after what came before
abbrev end_notes : Outcome → Past → Notes
end_notes o past = (map (λ clause. past.clause_line) o.0, past)

last_is : (t : State) (o : Outcome) (past : Past) → at_end t ≡ o → past_at_end t ≡ past → last_notes t ≡ end_notes o past
last_is t o past h k = ap (λ (x : Outcome). end_notes x (past_at_end t)) h ∙ ap (end_notes o) k

-- where no clause came any more
finishes : (old new : Known) (s : State) (past : Past) (e : Ending) → Finishes old new (next_at s) past e → IfSome old (λ text. notes_at s text ≡ ([], past))
finishes old new s past e (by_byte p) = leads_all old new ([], past) (leads_by noted (notes_next s) p (λ m. refl))
finishes old new s past e (by_input t p h k) = ends_all old new ([], past) (ends_as (ends_by noted (notes_next s) p) (last_is t ([], e) past h k))

-- the notes of what is left, after the end or before it
abbrev left : Bool → State → Known → Option Notes
left ended s known = if ended then Some ([], past_of s) else option_map (notes_at s) known

line_noted : (known : Known) (rest : State) (n : Notes) → IsNotes (option_map (notes_at rest) known) n
    → IfSome known (λ text. with_line (past_of rest).clause_line (notes_at rest text) ≡ with_line (past_of rest).clause_line n)
line_noted None rest n h = tt
line_noted (Some text) rest n h = ap (with_line (past_of rest).clause_line) h

-- a clause, and what is left
gives : (old new : Known) (s rest : State) (clause : List ℕ) (ended : Bool) (n : Notes) → GivesClause old new (next_at s) clause rest ended
    → IsNotes (left ended rest new) n → IfSome old (λ text. notes_at s text ≡ with_line (past_of rest).clause_line n)
gives old new s rest clause false n (more p) h = said_on old new _ (leads_by noted (notes_next s) p (λ m. refl)) (line_noted new rest n h)
gives old new s rest clause true n (last t p e k) h =
    ends_all old new _ (ends_as (ends_by noted (notes_next s) p) (last_is t (clause ∷ [], Ended) (past_of rest) e k ∙ ap (with_line (past_of rest).clause_line) h))

of_text : (s : State) (known : Known) (n : Notes) → IfSome known (λ text. notes_at s text ≡ n) → IsNotes (option_map (notes_at s) known) n
of_text s None n h = tt
of_text s (Some text) n h = h

-- ---- many calls

pub HasNoted-nil : {R : Type 0} (remaining : R → Known) (r : DimacsReader R) → HasNoted remaining r [] r
HasNoted-nil remaining r = record { back = λ n h. h }

module _ {R : Type 0} (remaining : R → Known) (old mid new : DimacsReader R) (lines : List ℕ) (clause : List ℕ) (noted_before : HasNoted remaining old lines mid) where
  goes_on : (ended : Bool) → ended ≡ has_ended mid → AfterEnd mid new clause (Ok true) → Reads remaining mid new clause (Ok true)
      → (n : Notes) → IsNotes (notes_left remaining new) n → IsNotes (left ended (standing mid) (unread_of remaining mid)) (with_line (past_of (standing new)).clause_line n)
  goes_on true e after read n h = let no = (after (sym e)).0 in absurd cc
  goes_on false e after read n h =
      of_text (standing mid) (unread_of remaining mid) (with_line (past_of (standing new)).clause_line n)
      (gives (unread_of remaining mid) (unread_of remaining new) (standing mid) (standing new) clause (has_ended new) n (read (sym e)) h)

  -- a call that gave a clause
  pub HasNoted-more : AfterEnd mid new clause (Ok true) → Reads remaining mid new clause (Ok true) → HasNoted remaining old (lines ++ (past_of (standing new)).clause_line ∷ []) new
  HasNoted-more after read = record {
    back = λ n h. rw (append_assoc lines ((past_of (standing new)).clause_line ∷ []) n.0)
        (noted_before.back (with_line (past_of (standing new)).clause_line n) (goes_on (has_ended mid) refl after read n h));
  }

  stops : (ended : Bool) → ended ≡ has_ended mid → AfterEnd mid new clause (Ok false) → Reads remaining mid new clause (Ok false)
      → IsNotes (left ended (standing mid) (unread_of remaining mid)) ([], past_of (standing new))
  stops true is after read = ap (λ (r : DimacsReader R). end_notes ([], Ended) (past_of (standing r))) (sym (after (sym is)).1)
  stops false is after read = of_text (standing mid) (unread_of remaining mid) ([], past_of (standing new))
      (finishes (unread_of remaining mid) (unread_of remaining new) (standing mid) (past_of (standing new)) Ended (read (sym is)).0)

  -- a call that found the end
  pub IsNotes-ended : AfterEnd mid new clause (Ok false) → Reads remaining mid new clause (Ok false) → IsNotes (notes_left remaining old) (lines, past_of (standing new))
  IsNotes-ended after read = rw append-nil at (noted_before.back ([], past_of (standing new)) (stops (has_ended mid) refl after read))

some_notes : (known : Option Notes) → (n : Notes) × IsNotes known n
some_notes None = (([], past_of start), tt)
some_notes (Some n) = (n, refl)

-- the lines of the clauses given so far
pub BeginsOn-given : {R : Type 0} (remaining : R → Known) (old mid : DimacsReader R) (lines : List ℕ) → HasNoted remaining old lines mid → BeginsOn (notes_left remaining old) lines
BeginsOn-given remaining old mid lines noted = let some = some_notes (notes_left remaining mid) in (some.0, noted.back some.0 some.1)

-- ---- the whole text

of_start : (text : Known) → option_map (notes_at start) text ≡ option_map notes_of text
of_start None = refl
of_start (Some text) = refl

-- a new reader's notes are those of its text; the premises are clauses of `new`
pub notes_left-new : {R : Type 0} (remaining : R → Known) (r : DimacsReader R) (text : Known) → unread_of remaining r ≡ text →
    standing r ≡ start → has_ended r ≡ false → notes_left remaining r ≡ option_map notes_of text
notes_left-new remaining r text is at going = rw (going, at, is) (of_start text)
