-- How texts begin, and texts of many steps.
use Rattle.std.proofs.Common.{◌≡◌, ◌≢◌, ℕ, suc, List, [], ◌∷◌, ◌++◌, Err, refl, sym, ap, subst, ◌∙◌, inl, append_assoc, append-nil}
use Rattle.std.proofs.lemmas.Bool.{ne_eqb}
use Rattle.checker_rules.specs.Step.{Step, change_hash_bits, end_proof}
use Rattle.proof_bytes.specs.declared.fault.MalformedStep.TheVariants.{UnknownTag}
use Rattle.proof_bytes.specs.declared.format.Format.{Format}
use Rattle.proof_bytes.specs.declared.format.Format.TheVariants as formats
use Rattle.proof_bytes.specs.Fields.{made_at}
use Rattle.proof_bytes.specs.Formats.{after}
use Rattle.proof_bytes.specs.Laws.{NoSpellingBeginsAnother, StartIsRead, TextGrows, TextIsRead}
use Rattle.proof_bytes.specs.Reading.{Wrong, Found, ◌>>=◌}
use Rattle.proof_bytes.specs.Spelling.{spells, IsStep}
use Rattle.proof_bytes.specs.Steps.{step_at, next_at, tag_at, marked_at, then_after}
use Rattle.proof_bytes.specs.Texts.{Place, start_of, next_of, step_or_fault, ReadsTo, text, AreSteps, after_all}
use Rattle.proof_bytes.specs.Version2.{mark, text_2, writing, written_after}
use Rattle.proof_bytes.proofs.NumberLaws.{given}
use Rattle.proof_bytes.proofs.StepLaws.{step_again}

pub no_spelling_begins_another : NoSpellingBeginsAnother
no_spelling_begins_another format s t x y h k e = given s t x y (sym (step_again format s x h) ∙ ap (step_at format) e ∙ step_again format t y k)

-- ---- the start of a text

later : (format : Format) (bytes : List ℕ) → format ≢ formats.Start → next_at format bytes ≡ (step_at format bytes >>= then_after format)
unfolding next_at tag_at step_at made_at
later formats.Start bytes n = absurd (n refl)
later _ [] n = refl
later _ (tag ∷ bytes) n = refl

plain : (tag : ℕ) (bytes : List ℕ) → tag ≢ 0 → next_at formats.Start (tag ∷ bytes) ≡ next_at formats.Numbers (tag ∷ bytes)
unfolding next_at tag_at made_at
plain tag bytes n = rw (ne_eqb tag 0 n) refl

broken : (second : ℕ) (bytes : List ℕ) → second ≢ 2 → next_at formats.Start (0 ∷ second ∷ bytes) ≡ Err (Wrong UnknownTag)
unfolding next_at tag_at marked_at
broken second bytes n = rw (ne_eqb second 2 n) refl

pub start_is_read : StartIsRead
unfolding next_at tag_at marked_at made_at
start_is_read = record {
  later = later;
  empty = refl;
  plain = λ tag bytes. plain (suc tag) bytes (λ e. absurd cc);
  marked = λ bytes. refl;
  half = refl;
  broken = broken;
}

-- ---- many steps

after_begun : (step : Step) (format : Format) → format ≢ formats.Start → after step format ≢ formats.Start
after_begun (change_hash_bits bits) (formats.Bytes width) n = λ e. absurd cc
after_begun _ _ n = n

next_step : (format : Format) (step : Step) (rest : List ℕ) → format ≢ formats.Start → IsStep format step → next_of (format, spells format step ++ rest) ≡ inl (step, (after step format, rest))
unfolding next_of
next_step format step rest n h = ap step_or_fault (later format (spells format step ++ rest) n ∙ ap (λ (found : Found Step). found >>= then_after format) (step_again format step rest h))

later_steps : (format : Format) (steps : List Step) (rest : List ℕ) → format ≢ formats.Start → AreSteps format steps → ReadsTo (format, text format steps ++ rest) steps (after_all format steps, rest)
unfolding text
later_steps format [] rest n h = refl
later_steps format (step ∷ steps) rest n h =
    let tail = text (after step format) steps in (
      (after step format, tail ++ rest),
      ap (λ (bytes : List ℕ). next_of (format, bytes)) (append_assoc (spells format step) tail rest) ∙ next_step format step (tail ++ rest) n h.0,
      later_steps (after step format) steps rest (after_begun step format n) h.1,
    )

-- where the next step is the same, so are all
reads_from : (here other there : Place) (step : Step) (steps : List Step) → next_of here ≡ next_of other → ReadsTo other (step ∷ steps) there → ReadsTo here (step ∷ steps) there
reads_from here other there step steps e p = (p.0, e ∙ p.1, p.2)

-- a spelling begins with a tag, which is not 0
plain_start : (step : Step) (tail rest : List ℕ) → next_of (start_of ((spells formats.Numbers step ++ tail) ++ rest)) ≡ next_of (formats.Numbers, (spells formats.Numbers step ++ tail) ++ rest)
unfolding next_of spells
plain_start end_proof tail rest = ap step_or_fault (plain _ _ (λ e. absurd cc))
plain_start _ tail rest = ap step_or_fault (plain _ _ (λ e. absurd cc))

marked_start : (bytes : List ℕ) → next_of (start_of (0 ∷ 2 ∷ bytes)) ≡ next_of (formats.Bytes 64, bytes)
unfolding next_of
marked_start bytes = ap step_or_fault (start_is_read.marked bytes)

after_numbers : (step : Step) → after step formats.Numbers ≡ formats.Numbers
after_numbers (change_hash_bits bits) = refl
after_numbers _ = refl

after_all_numbers : (steps : List Step) → after_all formats.Numbers steps ≡ formats.Numbers
after_all_numbers [] = refl
after_all_numbers (step ∷ steps) = ap (λ (format : Format). after_all format steps) (after_numbers step) ∙ after_all_numbers steps

version_1 : (step : Step) (steps : List Step) (rest : List ℕ) → AreSteps formats.Numbers (step ∷ steps) →
    ReadsTo (start_of (text formats.Numbers (step ∷ steps) ++ rest)) (step ∷ steps) (formats.Numbers, rest)
unfolding text
version_1 step steps rest h =
    let bytes = text formats.Numbers (step ∷ steps) ++ rest in
    reads_from (start_of bytes) (formats.Numbers, bytes) (formats.Numbers, rest) step steps (plain_start step (text (after step formats.Numbers) steps) rest)
    (subst (λ (format : Format). ReadsTo (formats.Numbers, bytes) (step ∷ steps) (format, rest)) (after_all_numbers (step ∷ steps))
    (later_steps formats.Numbers (step ∷ steps) rest (λ e. absurd cc) h))

pub text_is_read : TextIsRead
text_is_read = record {
  later = later_steps;
  version_1 = version_1;
  version_2 = λ step steps rest h.
      let bytes = text (formats.Bytes 64) (step ∷ steps) ++ rest in
      reads_from (start_of (0 ∷ 2 ∷ bytes)) (formats.Bytes 64, bytes) _ step steps (marked_start bytes) (later_steps (formats.Bytes 64) (step ∷ steps) rest (λ e. absurd cc) h);
}

-- ---- texts written step by step

text_more : (format : Format) (steps : List Step) (step : Step) → text format (steps ++ step ∷ []) ≡ text format steps ++ spells (after_all format steps) step
unfolding text
text_more format [] step = append-nil (spells format step)
text_more format (first ∷ steps) step =
    ap (λ (l : List ℕ). spells format first ++ l) (text_more (after first format) steps step)
    ∙ sym (append_assoc (spells format first) (text (after first format) steps) (spells (after_all (after first format) steps) step))

after_more : (format : Format) (steps : List Step) (step : Step) → after_all format (steps ++ step ∷ []) ≡ after step (after_all format steps)
after_more format [] step = refl
after_more format (first ∷ steps) step = after_more (after first format) steps step

fits_more : (format : Format) (steps : List Step) (step : Step) → AreSteps format steps → IsStep (after_all format steps) step → AreSteps format (steps ++ step ∷ [])
fits_more format [] step all h = (h, tt)
fits_more format (first ∷ steps) step all h = (all.0, fits_more (after first format) steps step all.1 h)

after_all_begun : (steps : List Step) (format : Format) → format ≢ formats.Start → after_all format steps ≢ formats.Start
after_all_begun [] format n = n
after_all_begun (step ∷ steps) format n = after_all_begun steps (after step format) (after_begun step format n)

written_begun : (format : Format) → format ≢ formats.Start → (writing format ≡ format) × (mark format ≡ [])
written_begun formats.Start n = absurd (n refl)
written_begun _ n = (refl, refl)

begun : (first : Step) (steps : List Step) → written_after (first ∷ steps) ≢ formats.Start
begun first steps = after_all_begun (first ∷ steps) (formats.Bytes 64) (λ e. absurd cc)

version_2_grows : (steps : List Step) (step : Step) → text_2 (steps ++ step ∷ []) ≡ text_2 steps ++ (mark (written_after steps) ++ spells (writing (written_after steps)) step)
unfolding text
version_2_grows [] step = ap (λ (l : List ℕ). 0 ∷ 2 ∷ l) (append-nil (spells (formats.Bytes 64) step))
version_2_grows (first ∷ steps) step =
    let as_begun = written_begun (written_after (first ∷ steps)) (begun first steps) in
    rw (as_begun.0, as_begun.1) (ap (λ (l : List ℕ). 0 ∷ 2 ∷ l) (text_more (formats.Bytes 64) (first ∷ steps) step))

format_grows : (steps : List Step) (step : Step) → written_after (steps ++ step ∷ []) ≡ after step (writing (written_after steps))
format_grows [] step = refl
format_grows (first ∷ steps) step = after_more (formats.Bytes 64) (first ∷ steps) step ∙ ap (after step) (sym (written_begun (written_after (first ∷ steps)) (begun first steps)).0)

fits_2_grows : (steps : List Step) (step : Step) → AreSteps (formats.Bytes 64) steps → IsStep (writing (written_after steps)) step → AreSteps (formats.Bytes 64) (steps ++ step ∷ [])
fits_2_grows [] step all h = fits_more (formats.Bytes 64) [] step all h
fits_2_grows (first ∷ steps) step all h =
    fits_more (formats.Bytes 64) (first ∷ steps) step all
    (subst (λ (format : Format). IsStep format step) (written_begun (written_after (first ∷ steps)) (begun first steps)).0 h)

pub text_grows : TextGrows
text_grows = record {
  version_1 = λ steps s. text_more formats.Numbers steps s ∙ ap (λ (format : Format). text formats.Numbers steps ++ spells format s) (after_all_numbers steps);
  version_2 = version_2_grows;
  format = format_grows;
  fits_1 = λ steps s all h. fits_more formats.Numbers steps s all (subst (λ (format : Format). IsStep format s) (sym (after_all_numbers steps)) h);
  fits_2 = fits_2_grows;
}
