-- Lines that are accepted and written in turn, and their steps.
use Rattle.std.proofs.Common.{◌≡◌, ℕ, Bool, true, false, ◌||◌, if◌then◌else◌, List, [], ◌∷◌, ◌++◌, length, Option, Some, None, arith, Result, Ok, Err, refl, sym, ap, ◌∙◌, subst, append_assoc, append-nil}
use Rattle.std.proofs.lemmas.Option.{cond_some}
use Rattle.std.specs.Io.KnownBytes.{Appends, Keeps}
use Rattle.std.proofs.KnownBytes.{Appends-kept, Appends-nil, Appends-trans, Keeps-refl}
use Rattle.std.specs.Prelude.{OnErr, OnOk}
use Rattle.sat_formula.specs.Readings.{Known}
use Rattle.whole_writes.specs.Beginnings.{AppendsBeginning}
use Rattle.written_numbers.specs.Words.{line_text}
use Rattle.sat_rules.specs.Named.{Item}
use Rattle.lrat_rules.specs.Lines.{Line, accepts, after, run, then_run}
use Rattle.lrat_rules.specs.Stores.{formula_store}
use Rattle.lrat_checker.specs.Standing.{IsReady, has_refuted}
use Rattle.lrat_checker.specs.declared.checker.LratChecker.{LratChecker}
use Rattle.sat_output.specs.DratTexts.{adds_clause, step_text, steps_text}
use Rattle.sat_output.specs.LineForms.{lines_in}
use Rattle.sat_output.specs.LratBytes.{line_bytes, lines_bytes}
use Rattle.sat_output.specs.LratTexts.{last_after, lines_text, words_before_end}
use Rattle.sat_output.specs.declared.form.LineForm.{LineForm}
use Rattle.sat_output.specs.declared.form.LineForm.TheVariants.{Text, Binary}
use Rattle.sat_output.proofs.Beginnings.{begins_front, begins_nothing, begins_past, begins_whole}
use Rattle.drat_check.specs.declared.fault.ProofFault.{ProofFault}
use Rattle.drat_check.specs.declared.fault.RunFault.{RunFault}
use Rattle.drat_check.specs.declared.fault.RunFault.TheVariants.{Formula, Proof, Lrat, Trim, Core}
use Rattle.drat_check.specs.declared.outputs.Outputs.{Outputs}
use Rattle.drat_check.specs.Outputs.{BeganLines, HasWritten, IfWanted, IsLineFault, WritesOutputs, WroteProof, bytes_in}

-- ---- texts of lines

-- the id of the last addition
abbrev pub last_of : ℕ → List Line → ℕ
last_of last [] = last
last_of last (x ∷ xs) = last_of (last_after last x) xs

last_of-more : (last : ℕ) (xs : List Line) (x : Line) → last_of last (xs ++ x ∷ []) ≡ last_after (last_of last xs) x
last_of-more last [] x = refl
last_of-more last (y ∷ xs) x = last_of-more (last_after last y) xs x

pub lines_in-more : (form : LineForm) (last : ℕ) (xs : List Line) (x : Line) → lines_in form last (xs ++ x ∷ []) ≡ lines_in form last xs ++ lines_in form (last_of last xs) (x ∷ [])
lines_in-more Text last [] x = refl
lines_in-more Text last (y ∷ xs) x =
    let next = last_after last y in
    rw (lines_in-more Text next xs x, append_assoc (line_text (words_before_end last y)) (10 ∷ lines_text next xs) (lines_text (last_of next xs) (x ∷ [])))
lines_in-more Binary last [] x = refl
lines_in-more Binary last (y ∷ xs) x = rw (lines_in-more Binary last xs x, append_assoc (line_bytes y) (lines_bytes xs) (lines_bytes (x ∷ [])))

-- no line has no bytes
lines_in-none : (form : LineForm) (last : ℕ) → lines_in form last [] ≡ []
lines_in-none Text last = refl
lines_in-none Binary last = refl

-- ---- steps of lines

-- a run continues after its first line, which is accepted
run-rest : (b : Bool) (st su : List Item) (y : Line) (xs : List Line) → then_run (if b then Some (after st y) else None) (λ s. run s xs) ≡ Some su →
    run (after st y) xs ≡ Some su
run-rest b st su y xs e = grind arith

-- whether a line added a clause, or one before had
pub begun_of : Bool → List Line → Bool
begun_of begun [] = begun
begun_of begun (x ∷ xs) = begun_of (begun || adds_clause x) xs

begun_of-more : (begun : Bool) (xs : List Line) (x : Line) → begun_of begun (xs ++ x ∷ []) ≡ (begun_of begun xs || adds_clause x)
unfolding begun_of
begun_of-more begun [] x = refl
begun_of-more begun (y ∷ xs) x = begun_of-more (begun || adds_clause y) xs x

steps_text-more : (begun : Bool) (st su : List Item) (xs : List Line) (x : Line) → run st xs ≡ Some su →
    steps_text begun st (xs ++ x ∷ []) ≡ steps_text begun st xs ++ step_text (begun_of begun xs) su x
unfolding begun_of
steps_text-more begun st su [] x ran =
    append-nil (step_text begun st x) ∙ ap (λ s. step_text begun s x) (cond_some true st su ran).1
steps_text-more begun st su (y ∷ xs) x ran =
    let next = begun || adds_clause y in
    rw (
      steps_text-more next (after st y) su xs x (run-rest (accepts st y) st su y xs ran),
      append_assoc (step_text begun st y) (steps_text next (after st y) xs) (step_text (begun_of next xs) su x),
    )

-- steps that are made where they are asked for are appended
pub appends_wanted : {L : Type 0} (contents : L → Known) (trim trim' : Option L) (text steps : List ℕ) → IfWanted trim (text ≡ steps) →
    Appends (bytes_in contents trim) (bytes_in contents trim') text → Appends (bytes_in contents trim) (bytes_in contents trim') steps
appends_wanted contents None trim' text steps is_made p = tt
appends_wanted contents (Some w) trim' text steps is_made p = subst (Appends (contents w) (bytes_in contents trim')) is_made p

pub begins_wanted : {L : Type 0} (contents : L → Known) (trim trim' : Option L) (text steps : List ℕ) → IfWanted trim (text ≡ steps) →
    AppendsBeginning (bytes_in contents trim) (bytes_in contents trim') text → AppendsBeginning (bytes_in contents trim) (bytes_in contents trim') steps
begins_wanted contents None trim' text steps is_made p = record { count = 0; within = omega arith; appended = tt }
begins_wanted contents (Some w) trim' text steps is_made p = subst (AppendsBeginning (contents w) (bytes_in contents trim')) is_made p

-- ---- lines in turn

-- the checker has accepted some lines, which are written, and so are their steps
pub record SoFar (form : LineForm) (formula : List (List ℕ)) (lrat lrat' trim trim' : Known) (checker : LratChecker) (last : ℕ) (begun : Bool) : Type 0 where
  pub lines : List Line
  pub ready : IsReady formula lines checker
  pub text : Appends lrat lrat' (lines_in form (length formula) lines)
  pub trimmed : Appends trim trim' (steps_text false (formula_store formula) lines)
  pub number : last ≡ last_of (length formula) lines
  pub has_begun : begun ≡ begun_of false lines

pub none_yet : (form : LineForm) (formula : List (List ℕ)) (lrat trim : Known) (checker : LratChecker) (last : ℕ) (begun : Bool) → IsReady formula [] checker →
    last ≡ length formula → begun ≡ false → SoFar form formula lrat lrat trim trim checker last begun
unfolding begun_of
none_yet form formula lrat trim checker last begun ready number has_begun =
    let no_text : Appends lrat lrat (lines_in form (length formula) []) = rw (lines_in-none form (length formula)) (Appends-nil lrat) in
    search (no_text, Appends-nil trim)

module _ (form : LineForm) (formula : List (List ℕ)) (lrat lrat' lrat'' trim trim' trim'' : Known) (checker next : LratChecker) (last : ℕ) (begun : Bool) (x : Line)
    (p : SoFar form formula lrat lrat' trim trim' checker last begun) where
  abbrev store : List Item
  store = formula_store formula

  -- the steps of the line
  abbrev pub steps : List ℕ
  steps = step_text begun p.ready.accepted.store x

  with_line : lines_in form (length formula) p.lines ++ lines_in form last (x ∷ []) ≡ lines_in form (length formula) (p.lines ++ x ∷ [])
  with_line =
      ap (λ n. lines_in form (length formula) p.lines ++ lines_in form n (x ∷ [])) p.number
      ∙ sym (lines_in-more form (length formula) p.lines x)

  with_steps : steps_text false store p.lines ++ steps ≡ steps_text false store (p.lines ++ x ∷ [])
  with_steps =
      ap (λ b. steps_text false store p.lines ++ step_text b p.ready.accepted.store x) p.has_begun
      ∙ sym (steps_text-more false store p.ready.accepted.store p.lines x p.ready.accepted.ran)

  line_written : Appends lrat' lrat'' (lines_in form last (x ∷ [])) → Appends lrat lrat'' (lines_in form (length formula) (p.lines ++ x ∷ []))
  line_written line =
      subst (Appends lrat lrat'') with_line (Appends-trans lrat lrat' lrat'' (lines_in form (length formula) p.lines) (lines_in form last (x ∷ [])) p.text line)

  pub one_more : (later : ℕ) (now : Bool) → IsReady formula (p.lines ++ x ∷ []) next → Appends lrat' lrat'' (lines_in form last (x ∷ [])) →
      Appends trim' trim'' steps → later ≡ last_after last x → now ≡ (begun || adds_clause x) → SoFar form formula lrat lrat'' trim trim'' next later now
  one_more later now ready line written number is = record {
    lines = p.lines ++ x ∷ [];
    ready = ready;
    text = line_written line;
    trimmed = subst (Appends trim trim'') with_steps (Appends-trans trim trim' trim'' (steps_text false store p.lines) steps p.trimmed written);
    number = number ∙ ap (λ n. last_after n x) p.number ∙ sym (last_of-more (length formula) p.lines x);
    has_begun = is ∙ ap (λ b. b || adds_clause x) p.has_begun ∙ sym (begun_of-more false p.lines x);
  }

  -- a beginning of the line is written, and none of its steps
  pub began_line : IsReady formula (p.lines ++ x ∷ []) next → AppendsBeginning lrat' lrat'' (lines_in form last (x ∷ [])) → BeganLines form formula lrat lrat'' trim trim'
  began_line ready line = search (
    ready.accepted,
    subst (AppendsBeginning lrat lrat'') with_line (begins_past lrat lrat' lrat'' (lines_in form (length formula) p.lines) (lines_in form last (x ∷ [])) p.text line),
    subst (AppendsBeginning trim trim') with_steps (begins_front trim trim' (steps_text false store p.lines) steps
        (begins_whole trim trim' (steps_text false store p.lines) p.trimmed)),
  )

  -- the line is written, and a beginning of its steps
  pub began_steps : IsReady formula (p.lines ++ x ∷ []) next → Appends lrat' lrat'' (lines_in form last (x ∷ [])) → AppendsBeginning trim' trim'' steps →
      BeganLines form formula lrat lrat'' trim trim''
  began_steps ready line written = search (
    ready.accepted,
    begins_whole lrat lrat'' (lines_in form (length formula) (p.lines ++ x ∷ [])) (line_written line),
    subst (AppendsBeginning trim trim'') with_steps (begins_past trim trim' trim'' (steps_text false store p.lines) steps p.trimmed written),
  )

module _ {form : LineForm} {formula : List (List ℕ)} {lrat lrat' trim trim' : Known} {checker : LratChecker} (p : HasWritten form formula lrat lrat' trim trim' checker) where
  abbrev text : List ℕ
  text = lines_in form (length formula) p.lines

  abbrev steps_before : List ℕ
  steps_before = steps_text false (formula_store formula) p.lines

  -- no more is written
  pub began_after : {lrat'' trim'' : Known} → Keeps lrat' lrat'' → Keeps trim' trim'' → BeganLines form formula lrat lrat'' trim trim''
  began_after {lrat''} {trim''} kept kept' = search (
    begins_whole lrat lrat'' text (Appends-kept lrat lrat' lrat'' text p.text kept),
    begins_whole trim trim'' steps_before (Appends-kept trim trim' trim'' steps_before p.trimmed kept'),
  )

  pub wrote : {lrat'' trim'' : Known} → has_refuted checker ≡ true → Keeps lrat' lrat'' → Keeps trim' trim'' → WroteProof form formula lrat lrat'' trim trim''
  wrote {lrat''} {trim''} refuted kept kept' = search (
    sym p.ready.accepted.refuted ∙ refuted,
    Appends-kept lrat lrat' lrat'' text p.text kept,
    Appends-kept trim trim' trim'' steps_before p.trimmed kept',
  )

module _ {form : LineForm} {formula : List (List ℕ)} {lrat lrat' trim trim' : Known} {checker : LratChecker} {last : ℕ} {begun : Bool}
    (p : SoFar form formula lrat lrat' trim trim' checker last begun) where
  pub written : HasWritten form formula lrat lrat' trim trim' checker
  written = search

  pub began : BeganLines form formula lrat lrat' trim trim'
  began = began_after written (Keeps-refl lrat') (Keeps-refl trim')

-- no line was made
pub began_none : {form : LineForm} {formula : List (List ℕ)} {lrat trim : Known} → BeganLines form formula lrat lrat trim trim
began_none {form} {formula} {lrat} {trim} = record {
  lines = [];
  store = formula_store formula;
  accepted = refl;
  text = begins_nothing lrat (lines_in form (length formula) []);
  trimmed = begins_nothing trim [];
}

-- what holds in any case
pub on_ok : {A E : Type 0} (P : Type 0) (r : Result A E) → P → OnOk r P
on_ok P (Ok x) p = p
on_ok P (Err e) p = tt

pub on_err : {A E : Type 0} (P : Type 0) (r : Result A E) → P → OnErr r P
on_err P (Ok x) p = tt
on_err P (Err e) p = p

-- a rejection before a line was made
pub refused : {L C : Type 0} (formula : List (List ℕ)) (lrat : L → Known) (core : C → Known) (s : Outputs L C) (fault : ProofFault) →
    WritesOutputs formula lrat core s s (Err (Proof fault))
refused formula lrat core s fault = (began_none, refl)

-- a fault of making or writing lines, before the core is written
pub began_before : {L C : Type 0} (formula : List (List ℕ)) (lrat : L → Known) (core : C → Known) (s s' : Outputs L C) (fault : RunFault) →
    IsLineFault {A = Unit {0}} (Err fault) → BeganLines s.form formula (bytes_in lrat s.lrat) (bytes_in lrat s'.lrat) (bytes_in lrat s.trim) (bytes_in lrat s'.trim) →
    s'.core ≡ s.core → WritesOutputs formula lrat core s s' (Err fault)
began_before formula lrat core s s' (Formula fault) made began kept = absurd made
began_before formula lrat core s s' (Core cause) made began kept = absurd made
began_before formula lrat core s s' (Proof fault) made began kept = (began, kept)
began_before formula lrat core s s' (Lrat cause) made began kept = (began, kept)
began_before formula lrat core s s' (Trim cause) made began kept = (began, kept)
