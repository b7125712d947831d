-- What an accepted proof and its verdict say.
--     more_inputs      a proof takes no input clause away
--     refuted_before      a verdict of unsatisfiability refutes what held before the proof
--     refuted_clauses      and the formula, where the checker was new
--     whole_run, refuted_text      the run over both texts, and what it says of a text whose bytes are known
--     unwritten_run      and where its line was not written whole
--     told_run      what it reports of the formula's header
use Rattle.std.proofs.Common.{◌≡◌, ◌≤◌, ℕ, Bool, true, false, List, [], map, Option, Some, None, Result, Ok, Err, refl, sym, ap, ◌∙◌, subst, arith}
use Rattle.std.specs.Prelude.{◌-◌, IfOk}
use Rattle.std.proofs.lemmas.Bool.Decides.{nat_tests}
use Rattle.sat_rules.specs.Clauses.{all_true}
use Rattle.checker_rules.specs.Calls.{shown_inputs, shown_unsat}
use Rattle.checker_rules.specs.Headline.{holds}
use Rattle.checker_rules.specs.State.{State}
use Rattle.checker_rules.specs.Step.{Step, add_clause}
use Rattle.checker_rules.specs.Steps.{new_state}
use Rattle.checker_rules.proofs.AddedClauses.{formulas_are_fold, members}
use Rattle.checker_rules.proofs.Refuting.{counted_run, runs_refute}
use Rattle.proof_bytes.specs.Reading.{Fault}
use Rattle.proof_bytes.specs.Texts.{Place, next_of, start_of}
use Rattle.checker_parts.specs.Answers.{IsCovered}
use Rattle.checker_parts.specs.declared.error.DimacsError.{DimacsError}
use Rattle.checker_steps.specs.Delivered.{Listeners, Listens, ListensImage}
use Rattle.varisat_checker.specs.ProofRun.{ProofAnswer, ProofRun}
use Rattle.varisat_checker.specs.TextRun.{EndsText, TextAnswer, TextRun, outcome_of}
use Rattle.checker_steps.specs.Failing.{IsFailed}
use Rattle.sat_formula.specs.Readings.{Known}
use Rattle.sat_formula.specs.declared.counts.LyingHeader.{LyingHeader}
use Rattle.sat_formula.specs.Refuted.{IsRefuted}
use Rattle.sat_formula.specs.Lies.{IsLie}
use Rattle.whole_writes.specs.Beginnings.{AppendsBeginning}
use Rattle.varisat_check.specs.Runs.{BeginsLine, CheckRun, IsUnwritten, OnProof, RefusedText, RunTellsLie}
use Rattle.varisat_check.specs.declared.fault.RunFault.{RunFault}
use Rattle.varisat_check.specs.declared.fault.RunFault.TheVariants.{Formula, Write}
use Rattle.varisat_check.specs.Verdicts.{shown_line, verdict_of}
use Rattle.varisat_check.specs.declared.verdict.Verdict.{Verdict}
use Rattle.varisat_check.specs.declared.verdict.Verdict.TheVariants.{Unsatisfiable}
use Rattle.varisat_checker.proofs.CountLemmas.{adding-failed}

-- the checker accepted the proof
abbrev Accepts : Known → List ℕ → List Step → State → State → Type 0
Accepts known text steps s s' = ProofAnswer {A = Unit {0}} known s text steps (Ok tt) s'

-- it took the formula's text
abbrev Adds : Known → List (List ℕ) → State → Type 0
Adds known clauses s' = TextAnswer {A = Unit {0}} known new_state clauses (Ok tt) s'

pub more_inputs : {known : Known} {text : List ℕ} {steps : List Step} (s s' : State) → Accepts known text steps s s' → s.failed ≡ false → shown_unsat s' ≡ true → shown_inputs s ≤ shown_inputs s'
more_inputs {text = text} {steps = steps} s s' run lives h = grind (arith, lives, h, counted_run Place Fault next_of s (start_of text) steps None s' run.ends)

pub refuted_before : {known : Known} {text : List ℕ} {steps : List Step} (s s' : State) (before : List Step) → Accepts known text steps s s' →
    s.failed ≡ false → verdict_of (shown_inputs s) s' ≡ Unsatisfiable
    → IsCovered before s → (a : ℕ → Bool) → holds before a ≡ false
refuted_before {text = text} {steps = steps} s s' before run lives v covered a =
    runs_refute Place Fault next_of (holds before) s (start_of text) steps None s' covered run.ends (grind (arith, v)) (grind (arith, nat_tests, lives, v)) a

-- a new checker with the whole formula has not failed
pub lives_on : {known : Known} {clauses : List (List ℕ)} (s : State) → Adds known clauses s → s.failed ≡ false
lives_on {clauses = clauses} s text = ap (λ (r : State). r.failed) text.answer.1 ∙ adding-failed new_state clauses

-- its clauses are the steps before the proof
refuted_clauses : {known : Known} {clauses : List (List ℕ)} (s : State) → Adds known clauses s →
    ((before : List Step) → IsCovered before s → (a : ℕ → Bool) → holds before a ≡ false) → (a : ℕ → Bool) → all_true a clauses ≡ false
refuted_clauses {known} {clauses} s text refuted a = sym (members clauses a) ∙ refuted (map add_clause clauses) covered a
  where
    covered : IsCovered (map add_clause clauses) s
    covered = subst (λ l. IsCovered (map add_clause l) s) (formulas_are_fold.accepted new_state clauses text.answer.0) (text.covers [] (λ b m. refl))

-- a checker that answered Ok had not failed before
pub not_failed : {K : Type 0} (b : Bool) (x : Unit {0}) → (b ≡ true → IsFailed {A = Unit {0}} (Ok x) × K) → b ≡ false
not_failed true x h = absurd (let e = (h refl).0 in cc)
not_failed false x h = refl

-- the verdict that is answered, by the state before the proof
pub verdict_told : (v : Verdict) (n : ℕ) (s s' : State) → ◌≡◌ {A = Result Verdict RunFault} (Ok v) (Ok Unsatisfiable) → v ≡ verdict_of n s' →
    n ≡ shown_inputs s → verdict_of (shown_inputs s) s' ≡ Unsatisfiable
verdict_told v n s s' h e k = let same : v ≡ Unsatisfiable = cc in sym (ap (λ m. verdict_of m s') k) ∙ sym e ∙ same

-- a new checker that was delivered the formula
abbrev pub AddsText : Known → State → Type 0
AddsText known s' = (clauses : List (List ℕ)) × Adds known clauses s'

pub text_added : {P T : Type 0} {listens : Listens P} {listens_image : ListensImage T}
    {old new : Listeners P T} (cnf : Known) (s s' : State) → s ≡ new_state
    → (s.failed ≡ false → TextRun {A = Unit {0}} cnf s (Ok tt) s' listens listens_image old new) → AddsText cnf s'
text_added cnf s s' e h = let run = h (ap (λ (r : State). r.failed) e) in (run.clauses, subst (λ r. TextAnswer {A = Unit {0}} cnf r run.clauses (Ok tt) s') e run.answered)

-- and did not take all of it
pub text_refused : {P T : Type 0} {listens : Listens P} {listens_image : ListensImage T}
    {old new : Listeners P T} (cnf : Known) (e : DimacsError) (s s' : State) → s ≡ new_state
    → (s.failed ≡ false → TextRun {A = Unit {0}} cnf s (Err e) s' listens listens_image old new) → RefusedText cnf e
text_refused cnf e s s' same h = let run = h (ap (λ (r : State). r.failed) same) in (run.clauses, s', subst (λ r. TextAnswer {A = Unit {0}} cnf r run.clauses (Err e) s') same run.answered)

-- the proof's run after a whole formula
pub whole_run : {P T : Type 0} (listens : Listens P) (listens_image : ListensImage T)
    (old new : Listeners P T) (cnf proof : Known) (s s' : State) (r : Result Verdict RunFault) → AddsText cnf s
    → OnProof (λ answer. ProofRun proof s answer s' listens listens_image old new) r → IfOk r (λ v. v ≡ verdict_of (shown_inputs s) s')
    → (r ≡ Ok Unsatisfiable → (before : List Step) → IsCovered before s → (a : ℕ → Bool) → holds before a ≡ false) → CheckRun cnf proof r
whole_run listens listens_image old new cnf proof s s' (Err (Formula e)) text run told refuted = absurd run
whole_run listens listens_image old new cnf proof s s' _ text run told refuted =
    record { clauses = text.0; formula = s; adds = text.1; text = run.text; steps = run.steps; left = s'; runs = run.answered; verdict = told; refutes = λ h. refuted_clauses s text.1 (refuted h) }

-- its line was not written whole
pub unwritten_run : {P T : Type 0} (listens : Listens P) (listens_image : ListensImage T)
    (old new : Listeners P T) (cnf proof : Known) (s s' : State) (r : Result Verdict RunFault) (before after : Known) → AddsText cnf s
    → OnProof (λ answer. ProofRun proof s answer s' listens listens_image old new) r
    → (IsUnwritten r → AppendsBeginning before after (shown_line (verdict_of (shown_inputs s) s'))) → IsUnwritten r → BeginsLine cnf proof before after
unwritten_run listens listens_image old new cnf proof s s' (Err (Write cause)) before after text run begins is =
    record { clauses = text.0; formula = s; adds = text.1; text = run.text; steps = run.steps; left = s'; runs = run.answered; begins = begins is }
unwritten_run listens listens_image old new cnf proof s s' _ before after text run begins is = absurd is

-- of a text whose bytes are known
pub refuted_text : (cnf : Known) (bytes : List ℕ) (s : State) → cnf ≡ Some bytes → AddsText cnf s →
    ((before : List Step) → IsCovered before s → (a : ℕ → Bool) → holds before a ≡ false) → IsRefuted bytes
refuted_text cnf bytes s known text refuted =
    let whole = subst (λ k. EndsText {A = Unit {0}} (outcome_of k) text.0 (Ok tt)) known text.1.text in
    (text.0, whole, refuted_clauses s text.1 refuted)

-- the proof was run, so the formula was added whole
pub told_run : {P T : Type 0} (listens : Listens P) (listens_image : ListensImage T)
    (old new : Listeners P T) (cnf proof : Known) (s s' : State) (r : Result Verdict RunFault) (told : Option LyingHeader)
    → OnProof (λ answer. ProofRun proof s answer s' listens listens_image old new) r → IsLie cnf told → RunTellsLie cnf r told
told_run listens listens_image old new cnf proof s s' r told run h = grind arith
