-- What a loop over `next_step` keeps, and how it ends.
--     SoFar      what was taken and accepted so far; `nothing_yet` begins it, `one_more` is a turn of the loop
--     run_ends      how it ends
--     of_text, all_taken, some_taken      what was taken is the reader's text, or its beginning
use Rattle.std.proofs.Common.{◌≡◌, ◌⊎◌, ℕ, Bool, true, false, ltb, List, [], ◌∷◌, ◌++◌, Option, Some, None, Ok, Err, refl, sym, ap, subst, ◌∙◌, inl, inr, append-nil, append_assoc, arith}
use Rattle.std.proofs.lemmas.Bool.{false≢true}
use Rattle.std.specs.Io.KnownBytes.{Consumes, IsAtEnd}
use Rattle.std.proofs.KnownBytes.{Consumes-trans, Consumes-nil}
use Rattle.checker_rules.specs.Calls.{attempt, closing_conflict, count_step, step_limit}
use Rattle.checker_rules.specs.Outcome.{Cause, Outcome, steps_exhausted}
use Rattle.checker_rules.specs.Run.{Runs, after_attempt, after_read, as_answer, move}
use Rattle.checker_rules.specs.State.{State}
use Rattle.checker_rules.specs.Step.{Step, end_proof}
use Rattle.checker_rules.proofs.Openings.{attempt-counted}
use Rattle.checker_rules.proofs.StepKinds.{step-end_proof}
use Rattle.proof_bytes.specs.declared.format.Format.{Format}
use Rattle.proof_bytes.specs.declared.format.Format.TheVariants as formats
use Rattle.proof_bytes.specs.NextStep.{is_end}
use Rattle.proof_bytes.specs.Reading.{Fault}
use Rattle.proof_bytes.specs.Steps.{next_at}
use Rattle.proof_bytes.specs.Taking.{IsBytes, Leads}
use Rattle.proof_bytes.specs.TextRuns.{Answer, BeginsTextOf, IsTextOf, RunsTo}
use Rattle.proof_bytes.specs.Texts.{Place, next_of, start_of, step_or_fault}
use Rattle.proof_bytes.proofs.Leading.{Known, bytes_on}

-- ---- one move

-- nothing forbids to read on
pub record MayRead (t : State) : Type 0 where
  pub going : t.ended ≡ false
  pub counted : ltb t.steps step_limit ≡ true

move_reads : (t : State) (place : Place) → MayRead t → move next_of t place ≡ after_read t (next_of place)
move_reads t place h = rw (h.going, h.counted) refl

pub found_step : (place next : Place) (step : Step) → next_at place.0 place.1 ≡ Ok ((next.0, step), next.1) → next_of place ≡ inl (step, next)
unfolding next_of
found_step place next step e = ap step_or_fault e

pub found_fault : (place : Place) (fault : Fault) → next_at place.0 place.1 ≡ Err fault → next_of place ≡ inr fault
unfolding next_of
found_fault place fault e = ap step_or_fault e

attempted : (o : Outcome) (refused : Option Cause) (step : Step) (next : Place) → o.refused ≡ refused →
    after_attempt {X = Place} {F = Fault} o.refused o.after step next ≡ after_attempt refused o.after step next
attempted o refused step next e = ap (λ (r : Option Cause). after_attempt {X = Place} {F = Fault} r o.after step next) e

pub move_step : (t : State) (place next : Place) (step : Step) (refused : Option Cause) → MayRead t → next_at place.0 place.1 ≡ Ok ((next.0, step), next.1) → (attempt t step).refused ≡ refused →
    move next_of t place ≡ after_attempt refused (attempt t step).after step next
move_step t place next step refused h e r =
    move_reads t place h ∙ ap (λ (found : (Step × Place) ⊎ Fault). after_read t found) (found_step place next step e) ∙ attempted (attempt t step) refused step next r

pub move_fault : (t : State) (place : Place) (fault : Fault) → MayRead t → next_at place.0 place.1 ≡ Err fault → move next_of t place ≡ inr (Some (inr fault), count_step t)
move_fault t place fault h e = move_reads t place h ∙ ap (λ (found : (Step × Place) ⊎ Fault). after_read t found) (found_fault place fault e)

pub move_exhausted : (t : State) (place : Place) → t.ended ≡ false → ltb t.steps step_limit ≡ false → move next_of t place ≡ inr (Some (inl steps_exhausted), t)
move_exhausted t place going none = rw (going, none) refl

pub move_closed : (t : State) (place : Place) → t.ended ≡ true → move next_of t place ≡ inr (as_answer (closing_conflict t).refused, (closing_conflict t).after)
move_closed t place ended = rw ended refl

-- after `End` nothing more is read
pub ended_after_end : (t : State) (step : Step) → is_end step ≡ true → ltb t.steps step_limit ≡ true → (attempt t step).after.ended ≡ true
ended_after_end t end_proof e counted = ap (λ (o : Outcome). o.after.ended) (attempt-counted t end_proof counted ∙ step-end_proof (count_step t))
ended_after_end t _ e counted = absurd cc

-- so while the checker has not ended, nor has the reader
pub reader_open : (ended : Bool) (step : Step) {t u : State} → ended ≡ is_end step → MayRead t → u ≡ (attempt t step).after → u.ended ≡ false → ended ≡ false
reader_open true step {t} {u} e h after going = absurd (false≢true (sym going ∙ ap (λ (v : State). v.ended) after ∙ ended_after_end t step (sym e) h.counted))
reader_open false step {t} {u} e h after going = refl

-- ---- what a loop keeps

-- from old to new some bytes were taken, and whatever comes after them, the run from s accepts these steps first and is then in t
pub record SoFar (old new : Known) (s : State) (steps : List Step) (t : State) (format : Format) : Type 0 where
  pub taken : List ℕ
  pub bytes : IsBytes taken
  pub consumed : Consumes old new taken
  pub goes : (more : List ℕ) → RunsTo s (start_of (taken ++ more)) steps t (format, more)

pub nothing_yet : (known bytes : Known) (s : State) (format : Format) → bytes ≡ known → format ≡ formats.Start → SoFar known bytes s [] s format
nothing_yet known bytes s format e starts = rw (e, starts) (record { taken = []; bytes = λ i. omega arith; consumed = Consumes-nil known; goes = λ more. (refl, refl) })

run_on : (s : State) (here : Place) (steps : List Step) (t u : State) (there next : Place) (step : Step) → RunsTo s here steps t there →
    move next_of t there ≡ inl (step, next) → u ≡ (attempt t step).after → RunsTo s here (steps ++ step ∷ []) u next
run_on s here [] t u there next step p e is = (
  next,
  ap (λ (v : State). move next_of v here) p.0 ∙ ap (λ (q : Place). move next_of t q) p.1 ∙ e,
  (ap (λ (v : State). (attempt v step).after) p.0 ∙ sym is, refl),
)
run_on s here (first ∷ steps) t u there next step p e is = (p.0, p.1, run_on (attempt s first).after p.0 steps t u there next step p.2 e is)

-- a turn of the loop: the step that was read is accepted
pub one_more : {old now new : Known} {s t : State} {steps : List Step} {format next : Format} {step : Step} (u : State) →
    SoFar old now s steps t format → Leads now new (next_at format) (λ more. Ok ((next, step), more)) → MayRead t → (attempt t step).refused ≡ None → u ≡ (attempt t step).after →
    SoFar old new s (steps ++ step ∷ []) u next
one_more {old} {now} {new} {s} {t} {steps} {format} {next} {step} u p q h r is = record {
  taken = p.taken ++ q.taken;
  bytes = bytes_on p.taken q.taken p.bytes q.bytes;
  consumed = Consumes-trans old now new p.taken q.taken p.consumed q.consumed;
  goes = λ more.
      let moved = move_step t (format, q.taken ++ more) (next, more) step None h (q.same more) r in
      let run = run_on s (start_of (p.taken ++ (q.taken ++ more))) steps t u (format, q.taken ++ more) (next, more) step (p.goes (q.taken ++ more)) moved is in
      subst (λ (text : List ℕ). RunsTo s (start_of text) (steps ++ step ∷ []) u (next, more)) (sym (append_assoc p.taken q.taken more)) run;
}

-- ---- how a loop ends

pub run_ends : (s : State) (here : Place) (steps : List Step) (t : State) (there : Place) (answer : Answer) (r : State) →
    RunsTo s here steps t there → move next_of t there ≡ inr (answer, r) → Runs next_of s here steps answer r
run_ends s here [] t there answer r p e = ap (λ (v : State). move next_of v here) p.0 ∙ ap (λ (q : Place). move next_of t q) p.1 ∙ e
run_ends s here (first ∷ steps) t there answer r p e = (p.0, p.1, run_ends (attempt s first).after p.0 steps t there answer r p.2 e)

-- what holds of every text that begins with the bytes taken holds of one of the reader's
pub of_text : (P : List ℕ → Type 0) (known new : Known) (taken : List ℕ) → IsBytes taken → Consumes known new taken →
    ((more : List ℕ) → P (taken ++ more)) → (text : List ℕ) × IsTextOf known text × P text
of_text P None new taken bytes consumed h = (taken, bytes, subst P (append-nil taken) (h []))
of_text P (Some known) None taken bytes consumed h = absurd consumed
of_text P (Some known) (Some rest) taken bytes consumed h = (taken ++ rest, consumed, h rest)

pub all_taken : (known new : Known) (taken : List ℕ) → IsBytes taken → Consumes known new taken → IsAtEnd new → IsTextOf known taken
all_taken None new taken bytes consumed end = bytes
all_taken (Some known) None taken bytes consumed end = absurd consumed
all_taken (Some known) (Some rest) taken bytes consumed end = consumed ∙ ap (λ (l : List ℕ). taken ++ l) end ∙ append-nil taken

pub some_taken : (known new : Known) (taken : List ℕ) → IsBytes taken → Consumes known new taken → BeginsTextOf known taken
some_taken None new taken bytes consumed = bytes
some_taken (Some known) None taken bytes consumed = absurd consumed
some_taken (Some known) (Some rest) taken bytes consumed = (rest, consumed)
