-- A run whose checked steps one processor takes, by what the calls of the run ensure.
--     fresh_run, taken      the run, and the one processor that is left
--     counted, formula_refuted      what the verdict says
--     processor_refused, proof_refused      what else is answered
use Rattle.std.proofs.Common.{◌≡◌, ℕ, ◌≤◌, Bool, true, false, List, [], ◌∷◌, ◌++◌, map, get_or, Option, Ok, Err, refl, sym, ap, ◌∙◌, subst, arith, append_assoc}
use Rattle.sat_rules.specs.Clauses.{all_true}
use Rattle.checker_rules.specs.AddFormula.{add_clauses, added}
use Rattle.checker_rules.specs.CallEmissions.{EmitsCalls, empty_machine}
use Rattle.checker_rules.specs.Calls.{adds, fail, shown_inputs, shown_unsat}
use Rattle.checker_rules.specs.CheckedSteps.{NamedStep, hint_step, hint_steps}
use Rattle.checker_rules.specs.HintRun.{IsRun, machine_after}
use Rattle.checker_rules.specs.Machine.{Mirrors}
use Rattle.checker_rules.specs.Ran.{AllRan, Ran}
use Rattle.checker_rules.specs.RunEmissions.{EmitsRun}
use Rattle.checker_rules.specs.State.{State}
use Rattle.checker_rules.specs.Step.{Step, add_clause}
use Rattle.checker_rules.specs.Steps.{new_state}
use Rattle.checker_rules.proofs.AddedClauses.{formulas_are_fold, members}
use Rattle.checker_rules.proofs.CallRuns.{new_is_tied}
use Rattle.checker_rules.proofs.Emissions.{run-append}
use Rattle.checker_rules.proofs.FormulaHints.{formulas_emit}
use Rattle.checker_rules.proofs.RanLemmas.{all_ran_append}
use Rattle.checker_parts.specs.Answers.{AnswersStep, IsCovered}
use Rattle.checker_parts.specs.declared.error.CheckerError.{CheckerError}
use Rattle.checker_parts.specs.declared.error.CheckerError.TheVariants.{OutOfMemory}
use Rattle.proof_bytes.specs.Texts.{next_of, start_of}
use Rattle.checker_steps.specs.Delivered.{Listeners, Listens, ListensImage, DeliveredWhole}
use Rattle.varisat_checker.specs.Certified.{Certifies}
use Rattle.varisat_checker.specs.ProofRun.{ProofAnswer, ProofRun}
use Rattle.varisat_check.specs.LratRuns.{LratRun, RefusesFormula, RefusesProof}
use Rattle.varisat_check.specs.Verdicts.{verdict_of}
use Rattle.varisat_check.specs.declared.verdict.Verdict.{Verdict}
use Rattle.varisat_check.specs.declared.verdict.Verdict.TheVariants.{Unsatisfiable}
use Rattle.varisat_check.proofs.VerdictLemmas.{more_inputs, refuted_before}
use Rattle.varisat_checker.proofs.CountLemmas.{adding-failed}

-- the steps of two lists
hint_steps-append : (xs ys : List NamedStep) → hint_steps (xs ++ ys) ≡ hint_steps xs ++ hint_steps ys
hint_steps-append [] ys = refl
hint_steps-append (x ∷ xs) ys = ap (λ zs. hint_step x.step ++ zs) (hint_steps-append xs ys) ∙ sym (append_assoc (hint_step x.step) (hint_steps xs) (hint_steps ys))

-- one processor stays one
one_ran : {P : Type 0} (took : P → NamedStep → P → Type 0) (old : P) (es : List NamedStep) (news : List P) → AllRan took (old ∷ []) es news → (new : P) × (news ≡ new ∷ []) × Ran took old es new
one_ran took old es [] run = elim run [ ]
one_ran took old es (new ∷ []) run = (new, refl, run.0)
one_ran took old es (new ∷ other ∷ others) run = elim run.1 [ ]

-- the run, and the processor that is left
pub record Left {P : Type 0} (took : P → NamedStep → P → Type 0) (known : Option (List ℕ)) (formula : List (List ℕ)) (old : P) (verdict : Verdict) (news : List P) : Type 0 where
  pub new : P
  pub alone : news ≡ new ∷ []
  pub run : LratRun took known formula old verdict new

-- a new checker, a processor registered with it, a formula, a proof: the run, and the one processor that is left
pub fresh_run : {P C : Type 0} (listens : Listens P) (listens_image : ListensImage C)
    (formula : List (List ℕ)) (known : Option (List ℕ)) (old : P) (none first mid last : Listeners P C) (r s s' u : State) (n : ℕ) (verdict : Verdict) →
    r ≡ new_state → none.processors ≡ [] → s ≡ r → first ≡ record none { processors = none.processors ++ old ∷ [] } →
    (s.failed ≡ false → AnswersStep {A = Unit {0}} (Ok tt) (add_clauses s formula) s') →
    (s'.failed ≡ false → ProofRun {A = Unit {0}} known s' (Ok tt) u listens listens_image mid last) →
    (s.failed ≡ false → DeliveredWhole (EmitsCalls s (map adds (added s formula))) listens listens_image first mid) →
    (s.failed ≡ false → Certifies {A = Unit {0}} (Ok tt) (EmitsCalls s (map adds (added s formula))) s s') →
    n ≡ shown_inputs s' → verdict ≡ verdict_of n u → Left listens.took known formula old verdict last.processors
fresh_run {P} {C} listens listens_image formula known old none first mid last r s s' u n verdict new empty same registered answers runs delivers certifies inputs told =
    let fresh : s ≡ new_state = same ∙ new in
    let running : s.failed ≡ false = ap (λ (x : State). x.failed) fresh in
    let answer = subst (λ x. AnswersStep {A = Unit {0}} (Ok tt) (add_clauses x formula) s') fresh (answers running) in
    let given = delivers running in
    let emitted = subst (λ x. EmitsCalls x (map adds (added x formula)) given.0) fresh given.1 in
    let whole = formulas_are_fold.accepted new_state formula answer.0 in
    let run = runs (ap (λ (x : State). x.failed) answer.1 ∙ adding-failed new_state formula) in
    let alone : first.processors ≡ old ∷ [] = ap (λ x. x.processors) registered ∙ ap (λ bs. bs ++ old ∷ []) empty in
    let ran = all_ran_append listens.took given.0 run.delivered.0 first.processors mid.processors last.processors given.2.processors run.delivered.2.processors in
    let one = one_ran listens.took old (given.0 ++ run.delivered.0) last.processors (subst (λ bs. AllRan listens.took bs (given.0 ++ run.delivered.0) last.processors) alone ran) in
    let tied = subst (λ x. Mirrors empty_machine x) (sym fresh) new_is_tied.0 in
    let first_run = certifies running empty_machine given.0 tied given.1 in
    let second_run = run.certified (machine_after empty_machine (hint_steps given.0)) run.delivered.0 first_run.1 run.delivered.1 in
    let begins = formulas_emit new_state formula given.0 emitted in
    record {
      new = one.0;
      alone = one.1;
      run = record {
        accepted = answer.0;
        of_formula = given.0;
        formula_emits = subst (λ cs. EmitsCalls new_state (map adds cs) given.0) whole emitted;
        text = run.text;
        steps = run.steps;
        left = u;
        run = subst (λ x. ProofAnswer {A = Unit {0}} known x run.text run.steps (Ok tt) u) answer.1 run.answered;
        of_proof = run.delivered.0;
        proof_emits = subst (λ x. EmitsRun next_of x (start_of run.text) run.steps run.delivered.0) answer.1 run.delivered.1;
        ran = one.2;
        clauses = begins.0;
        inputs_first = begins.1;
        is_run = subst (IsRun empty_machine) (sym (hint_steps-append given.0 run.delivered.0)) (run-append empty_machine (hint_steps given.0) (hint_steps run.delivered.0) first_run.0 second_run.0);
        verdict_is = told ∙ ap (λ m. verdict_of m u) (inputs ∙ ap shown_inputs answer.1);
      };
    }

-- it is the one that is taken out
pub taken : {P : Type 0} (took : P → NamedStep → P → Type 0) (known : Option (List ℕ)) (formula : List (List ℕ)) (old here : P)
    (verdict : Verdict) (news items : List P) → Left took known formula old verdict news → items ≡ news → here ≡ get_or items 0 here →
    LratRun took known formula old verdict here
taken took known formula old here verdict news items left same place =
    let found : here ≡ left.new = place ∙ ap (λ bs. get_or bs 0 here) (same ∙ left.alone) in
    subst (LratRun took known formula old verdict) (sym found) left.run

-- ---- the state after the formula

-- a new checker that was delivered the whole formula, with a processor or without
abbrev Adding : List (List ℕ) → State → State → State → Type 0
Adding formula r s s' = (r ≡ new_state) × (s ≡ r) × (s.failed ≡ false → AnswersStep {A = Unit {0}} (Ok tt) (add_clauses s formula) s')

running_from : (r s : State) → r ≡ new_state → s ≡ r → s.failed ≡ false
running_from r s new same = ap (λ (x : State). x.failed) (same ∙ new)

added_whole : (formula : List (List ℕ)) (r s s' : State) → Adding formula r s s' → AnswersStep {A = Unit {0}} (Ok tt) (add_clauses new_state formula) s'
added_whole formula r s s' a = subst (λ x. AnswersStep {A = Unit {0}} (Ok tt) (add_clauses x formula) s') (a.1 ∙ a.0) (a.2 (running_from r s a.0 a.1))

still_running : (formula : List (List ℕ)) (r s s' : State) → Adding formula r s s' → s'.failed ≡ false
still_running formula r s s' a = ap (λ (x : State). x.failed) (added_whole formula r s s' a).1 ∙ adding-failed new_state formula

module _ {P C : Type 0} {listens : Listens P} {listens_image : ListensImage C} {mid last : Listeners P C} where
  -- the input clauses before and after an accepted proof
  pub counted : (formula : List (List ℕ)) (known : Option (List ℕ)) (r s s' u : State) (n : ℕ) → Adding formula r s s' →
      (s'.failed ≡ false → ProofRun {A = Unit {0}} known s' (Ok tt) u listens listens_image mid last) → n ≡ shown_inputs s' →
      shown_unsat u ≡ true → n ≤ shown_inputs u
  counted formula known r s s' u n a runs inputs h = grind (arith, still_running, more_inputs)

  -- a verdict of unsatisfiability
  pub formula_refuted : (formula : List (List ℕ)) (known : Option (List ℕ)) (r s s' u : State) (n : ℕ) (verdict : Verdict) → Adding formula r s s' →
      (s.failed ≡ false → (before : List Step) → IsCovered before s → IsCovered (before ++ map add_clause (added s formula)) s') →
      (s'.failed ≡ false → ProofRun {A = Unit {0}} known s' (Ok tt) u listens listens_image mid last) → n ≡ shown_inputs s' →
      verdict ≡ verdict_of n u → verdict ≡ Unsatisfiable → (a : ℕ → Bool) → all_true a formula ≡ false
  formula_refuted formula known r s s' u n verdict adding covers runs inputs told is a =
      let lives = still_running formula r s s' adding in
      let whole = formulas_are_fold.accepted new_state formula (added_whole formula r s s' adding).0 in
      let from_new = subst (λ x. (before : List Step) → IsCovered before x → IsCovered (before ++ map add_clause (added x formula)) s')
      (adding.1 ∙ adding.0) (covers (running_from r s adding.0 adding.1)) in
      let covered = subst (λ cs. IsCovered (map add_clause cs) s') whole (from_new [] (λ b m. refl)) in
      let unsatisfiable : verdict_of (shown_inputs s') u ≡ Unsatisfiable = sym (told ∙ ap (λ m. verdict_of m u) inputs) ∙ is in
      sym (members formula a) ∙ refuted_before s' u (map add_clause formula) (runs lives).answered lives unsatisfiable covered a

-- ---- rejections

-- a processor that is not registered
pub processor_refused : (formula : List (List ℕ)) (e : CheckerError) (r : State) → r ≡ new_state → (r.failed ≡ false → e ≡ OutOfMemory) → RefusesFormula formula e
processor_refused formula e r new given = subst (RefusesFormula formula) (sym (given (ap (λ (x : State). x.failed) new))) (fail new_state, refl)

-- a rejected proof
pub proof_refused : {P C : Type 0} {listens : Listens P} {listens_image : ListensImage C}
    {mid last : Listeners P C} (known : Option (List ℕ)) (formula : List (List ℕ)) (e : CheckerError) (r s s' u : State) →
    Adding formula r s s'
    → (s'.failed ≡ false → ProofRun {A = Unit {0}} known s' (Err e) u listens listens_image mid last) → RefusesProof known formula e
proof_refused known formula e r s s' u a runs =
    let answer = added_whole formula r s s' a in
    let run = runs (still_running formula r s s' a) in
    (answer.0, run.text, run.steps, u, subst (λ x. ProofAnswer {A = Unit {0}} known x run.text run.steps (Err e) u) answer.1 run.answered)
