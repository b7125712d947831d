-- How much a box shows after a list of steps, where it shows one byte more with each.
--     OneGrew shown old n news      of the one box old came one that shows n bytes more
--     Told, told      by what the calls of a run ensure, the one box that is left shows as many bytes more as steps were delivered
--     some-left, grown      what is read of that box
--     no-memory, processor-refused, formula-refused, proof-refused      what else is answered
use Rattle.std.proofs.Common.{◌≡◌, ℕ, ◌+◌, ◌-◌, ◌≤◌, ◌<◌, false, List, [], ◌∷◌, ◌++◌, map, length, get_or, Option, None, Ok, Err, inl, refl, sym, ap, ◌∙◌, subst, arith, length-append}
use Rattle.std.specs.declared.dyn_box.DynBox.{DynBox}
use Rattle.checker_rules.specs.AddFormula.{add_clauses, added}
use Rattle.checker_rules.specs.CallEmissions.{EmitsCalls}
use Rattle.checker_rules.specs.Calls.{adds, fail}
use Rattle.checker_rules.specs.CheckedSteps.{NamedStep}
use Rattle.checker_rules.specs.Ran.{AllRan, Ran}
use Rattle.checker_rules.specs.Run.{Runs}
use Rattle.checker_rules.specs.RunEmissions.{EmitsRun}
use Rattle.checker_rules.specs.State.{State}
use Rattle.checker_rules.specs.Steps.{new_state}
use Rattle.checker_rules.proofs.AddedClauses.{formulas_are_fold}
use Rattle.checker_rules.proofs.RanLemmas.{all_ran_append}
use Rattle.checker_parts.specs.Answers.{AnswersStep}
use Rattle.checker_parts.specs.Boxes.{InBox}
use Rattle.checker_parts.specs.declared.error.CheckerError.{CheckerError}
use Rattle.checker_parts.specs.declared.error.CheckerError.TheVariants.{OutOfMemory}
use Rattle.proof_bytes.specs.Texts.{next_of, start_of}
use Rattle.checker_steps.specs.Delivered.{Listeners, Listens, ListensImage, DeliveredWhole}
use Rattle.varisat_checker.specs.ProofRun.{ProofRun}
use Rattle.varisat_checker.proofs.CountLemmas.{adding-failed}
use Rattle.check_vectors.specs.Counts.{Grows, IsCount, IsRefused}

-- what the calls for a formula and a proof emit is what IsCount counts
is-count : {B C : Type 0} (listens : Listens B) (listens_image : ListensImage C)
    (formula : List (List ℕ)) (known : Option (List ℕ)) (mid last : Listeners B C) (s' u : State) (es : List NamedStep) →
    AnswersStep {A = Unit {0}} (Ok tt) (add_clauses new_state formula) s' → EmitsCalls new_state (map adds (added new_state formula)) es →
    (run : ProofRun {A = Unit {0}} known s' (Ok tt) u listens listens_image mid last) → IsCount known formula (length (es ++ run.delivered.0))
is-count listens listens_image formula known mid last s' u es answer emitted run = record {
  accepted = answer.0;
  of_clauses = es;
  clauses_emit = subst (λ cs. EmitsCalls new_state (map adds cs) es) (formulas_are_fold.accepted new_state formula answer.0) emitted;
  steps = run.steps;
  last = u;
  run = record { text = run.text; is_text = run.answered.is_text; runs = subst (λ r. Runs next_of r (start_of run.text) run.steps None u) answer.1 run.answered.ends };
  of_proof = run.delivered.0;
  proof_emits = subst (λ r. EmitsRun next_of r (start_of run.text) run.steps run.delivered.0) answer.1 run.delivered.1;
  count = length-append es run.delivered.0;
}

-- one step makes a box show a byte more, and leaves it one that grows
box-one : {V A : Type 0} {F : V → Type 0} (took : (v : V) → F v → NamedStep → F v → Type 0) (shown : (v : V) → F v → List ℕ)
    (old : DynBox V A F) (e : NamedStep) (new : DynBox V A F) → Grows (took old.vtable) (shown old.vtable) →
    InBox old (took old.vtable) e new →
    (length (shown new.vtable new.value) ≡ length (shown old.vtable old.value) + 1) × Grows (took new.vtable) (shown new.vtable)
box-one took shown old e new grows h =
    subst (λ b. (length (shown b.vtable b.value) ≡ length (shown old.vtable old.value) + 1) × Grows (took b.vtable) (shown b.vtable)) (sym h.same_box) (grows old.value e h.value h.inside, grows)

-- a list of steps makes it show as many bytes more
box-ran : {V A : Type 0} {F : V → Type 0} (took : (v : V) → F v → NamedStep → F v → Type 0) (shown : (v : V) → F v → List ℕ)
    (old : DynBox V A F) (es : List NamedStep) (new : DynBox V A F) → Grows (took old.vtable) (shown old.vtable) →
    Ran (λ b. InBox b (took b.vtable)) old es new →
    length (shown new.vtable new.value) ≡ length (shown old.vtable old.value) + length es
box-ran took shown old [] new grows same = subst (λ b. length (shown b.vtable b.value) ≡ length (shown old.vtable old.value) + 0) same (omega arith)
box-ran took shown old (e ∷ es) new grows run =
    let first = box-one took shown old e run.0 grows run.1 in
    let one = first.0 in
    let rest = box-ran took shown run.0 es new first.1 run.2 in
    omega arith

-- the one box of a list
pub record OneGrew {V A : Type 0} {F : V → Type 0} (shown : (v : V) → F v → List ℕ) (old : DynBox V A F) (count : ℕ) (news : List (DynBox V A F)) : Type 0 where
  pub new : DynBox V A F
  pub alone : news ≡ new ∷ []
  pub grew : length (shown new.vtable new.value) ≡ length (shown old.vtable old.value) + count

one-ran : {V A : Type 0} {F : V → Type 0} (took : (v : V) → F v → NamedStep → F v → Type 0) (shown : (v : V) → F v → List ℕ)
    (old : DynBox V A F) (es : List NamedStep) (news : List (DynBox V A F)) → Grows (took old.vtable) (shown old.vtable) →
    AllRan (λ b. InBox b (took b.vtable)) (old ∷ []) es news → OneGrew shown old (length es) news
one-ran took shown old es [] grows run = elim run [ ]
one-ran took shown old es (new ∷ []) grows run = record { new = new; alone = refl; grew = box-ran took shown old es new grows run.0 }
one-ran took shown old es (new ∷ other ∷ others) grows run = elim run.1 [ ]

-- what was counted, and the box that is left
pub record Told {V A : Type 0} {F : V → Type 0} (shown : (v : V) → F v → List ℕ) (old : DynBox V A F) (formula : List (List ℕ)) (known : Option (List ℕ)) (news : List (DynBox V A F)) : Type 0 where
  pub count : ℕ
  pub is_count : IsCount known formula count
  pub one : OneGrew shown old count news

-- what boxes say of themselves, by the values inside
abbrev boxed : {V A : Type 0} {F : V → Type 0} → (took faulted : (v : V) → F v → NamedStep → F v → Type 0) → (shown : (v : V) → F v → List ℕ) → Listens (DynBox V A F)
boxed took faulted shown = record {
  took = λ b. InBox b (took b.vtable);
  faulted = λ b. InBox b (faulted b.vtable);
  shown = λ b. shown b.vtable b.value;
}

-- a new checker, a box registered with it, a formula, a proof: the one box that is left shows as many bytes more as steps were delivered
pub told : {V A C : Type 0} {F : V → Type 0} (took faulted : (v : V) → F v → NamedStep → F v → Type 0) (shown : (v : V) → F v → List ℕ)
    (listens_image : ListensImage C)
    (formula : List (List ℕ)) (known : Option (List ℕ)) (old : DynBox V A F) (none first mid last : Listeners (DynBox V A F) C) (r s s' u : State) →
    Grows (took old.vtable) (shown old.vtable) → r ≡ new_state → none.processors ≡ [] → s ≡ r → first ≡ record none { processors = none.processors ++ old ∷ [] } →
    (s.failed ≡ false → AnswersStep {A = Unit {0}} (Ok tt) (add_clauses s formula) s') →
    (s'.failed ≡ false → ProofRun {A = Unit {0}} known s' (Ok tt) u (boxed took faulted shown) listens_image mid last) →
    (s.failed ≡ false → DeliveredWhole (EmitsCalls s (map adds (added s formula))) (boxed took faulted shown) listens_image first mid) →
    Told shown old formula known last.processors
told took faulted shown listens_image formula known old none first mid last r s s' u grows new empty same registered answers runs delivers =
    let fresh : s ≡ new_state = same ∙ new in
    let running : s.failed ≡ false = ap (λ (x : State). x.failed) fresh in
    let answer = subst (λ x. AnswersStep {A = Unit {0}} (Ok tt) (add_clauses x formula) s') fresh (answers running) in
    let inputs = delivers running in
    let emitted = subst (λ x. EmitsCalls x (map adds (added x formula)) inputs.0) fresh inputs.1 in
    let run = runs (ap (λ (x : State). x.failed) answer.1 ∙ adding-failed new_state formula) in
    let alone : first.processors ≡ old ∷ [] = ap (λ x. x.processors) registered ∙ ap (λ bs. bs ++ old ∷ []) empty in
    let ran = all_ran_append _ _ _ _ _ _ inputs.2.processors run.delivered.2.processors in
    record {
      count = length (inputs.0 ++ run.delivered.0);
      is_count = is-count _ _ formula known mid last s' u inputs.0 answer emitted run;
      one = one-ran took shown old _ last.processors grows (subst (λ bs. AllRan (λ b. InBox b (took b.vtable)) bs (inputs.0 ++ run.delivered.0) last.processors) alone ran);
    }

-- the box can be read
pub some-left : {V A : Type 0} {F : V → Type 0} (shown : (v : V) → F v → List ℕ) (old : DynBox V A F) (formula : List (List ℕ))
    (known : Option (List ℕ)) (news items : List (DynBox V A F)) → Told shown old formula known news → items ≡ news → 0 < length items
some-left shown old formula known news items left same = rw (same ∙ left.one.alone) (omega arith)

-- what is read of it, before and after
pub grown : {V A : Type 0} {F : V → Type 0} (shown : (v : V) → F v → List ℕ) (old here : DynBox V A F) (formula : List (List ℕ))
    (known : Option (List ℕ)) (news items : List (DynBox V A F)) (before after : List ℕ) →
    Told shown old formula known news → items ≡ news → here ≡ get_or items 0 here → before ≡ shown old.vtable old.value →
    after ≡ shown here.vtable here.value → (length before ≤ length after) × IsCount known formula (length after - length before)
grown shown old here formula known news items before after left same place b a = grind arith

-- "out of memory" is answered at any time
pub no-memory : (known : Option (List ℕ)) (formula : List (List ℕ)) → IsRefused known formula OutOfMemory
no-memory known formula = inl (fail new_state, refl)

-- and by a new checker only that, where it does not register a processor
pub processor-refused : (known : Option (List ℕ)) (formula : List (List ℕ)) (e : CheckerError) (r : State) → r ≡ new_state → (r.failed ≡ false → e ≡ OutOfMemory) → IsRefused known formula e
processor-refused known formula e r new given = subst (IsRefused known formula) (sym (given (ap (λ (x : State). x.failed) new))) (no-memory known formula)

-- a rejected formula
pub formula-refused : (known : Option (List ℕ)) (formula : List (List ℕ)) (e : CheckerError) (r s s' : State) → r ≡ new_state → s ≡ r →
    (s.failed ≡ false → AnswersStep {A = Unit {0}} (Err e) (add_clauses s formula) s') → IsRefused known formula e
formula-refused known formula e r s s' new same answers =
    let fresh : s ≡ new_state = same ∙ new in
    inl (s', subst (λ x. AnswersStep {A = Unit {0}} (Err e) (add_clauses x formula) s') fresh (answers (ap (λ (x : State). x.failed) fresh)))

-- a rejected proof
pub proof-refused : {B C : Type 0} {listens : Listens B} {listens_image : ListensImage C}
    {mid last : Listeners B C} (known : Option (List ℕ)) (formula : List (List ℕ)) (e : CheckerError) (r s s' u : State) → r ≡ new_state →
    s ≡ r
    → (s.failed ≡ false → AnswersStep {A = Unit {0}} (Ok tt) (add_clauses s formula) s') →
    (s'.failed ≡ false → ProofRun {A = Unit {0}} known s' (Err e) u listens listens_image mid last) →
    IsRefused known formula e
proof-refused known formula e r s s' u new same answers runs = grind (arith, adding-failed)
