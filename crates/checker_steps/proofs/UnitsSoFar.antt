-- Derived units, one after the other.
use Rattle.std.proofs.Common.{◌≡◌, arith, ℕ, ◌+◌, ◌<◌, add-one, drop, get_or, length, false, List, [], ◌∷◌, ◌++◌, Option, None, Some, Err, refl, sym, ap, ◌∙◌}
use Rattle.std.proofs.Math.Seq.{drop-cons}
use Rattle.checker_steps.proofs.Common.{append-nil, append_assoc, NamedStep, Emits, Cause, State, unit_clauses, step, traced, traced_units}
use Rattle.checker_steps.proofs.Common.{WellFormed, both_ran_append, both_ran_nil, steps_keep_form, step-unit_clauses, AnswersOutcome, StepFault}
use Rattle.checker_steps.proofs.Common.{Refused, Processor, OutOfMemory, Listeners, Listens, ListensImage, DeliveredList, DeliveredWhole, RanOver}
use Rattle.checker_steps.proofs.Common.{derived_steps}
use Rattle.checker_rules.specs.UnitClauses.{step_unit, step_unit_clauses}
use Rattle.checker_steps.proofs.DeliveryLemmas.{beginning-first, delivered-second}
use Rattle.checker_steps.proofs.EmissionLemmas.{answers-accept, traced-emits}

-- the pairs from the next one on
pub drop-pair : (us : List (ℕ × ℕ)) (i : ℕ) (p : ℕ × ℕ) → i < length us → p ≡ get_or us i p → drop i us ≡ p ∷ drop (i + 1) us
drop-pair us i p within here = rw (add-one, drop-cons us i p within, ← here)

-- what one pair shows
abbrev unit_steps : State → ℕ × ℕ → List NamedStep
unit_steps s p = derived_steps s false (p.0 ∷ []) (p.1 ∷ [])

-- what comes after a pair, unless it is rejected
abbrev later_steps : Option Cause → List NamedStep → List NamedStep
later_steps None es = es
later_steps (Some cause) es = []

-- a pair keeps the form
pub form-unit : (s t : State) (p : ℕ × ℕ) → WellFormed s → t ≡ (step_unit s p).after → WellFormed t
form-unit s t p form left = grind (arith, left, step-unit_clauses s (p ∷ []), steps_keep_form s (unit_clauses (p ∷ [])) form)

-- all pairs of a step show what it emits
pub units-traced : (s : State) (us : List (ℕ × ℕ)) → traced_units s us ≡ traced s (unit_clauses us)
units-traced s us = grind arith

-- from s over us, r is reached, and these pairs are to come
pub record UnitsSoFar {P T : Type 0} (listens : Listens P) (listens_image : ListensImage T) (s : State)
    (us : List (ℕ × ℕ)) (old : Listeners P T) (r : State) (rest : List (ℕ × ℕ)) (new : Listeners P T) : Type 0 where
  pub same_outcome : step_unit_clauses s us ≡ step_unit_clauses r rest
  pub told : List NamedStep
  pub same_steps : traced_units s us ≡ told ++ traced_units r rest
  pub ran : RanOver listens listens_image told old new

module _ {P T : Type 0} {listens : Listens P} {listens_image : ListensImage T} where
  -- nothing yet
  pub so-far-none : {s : State} {us : List (ℕ × ℕ)} {old : Listeners P T} → UnitsSoFar listens listens_image s us old s us old
  so-far-none = record { same_outcome = refl; told = []; same_steps = refl; ran = both_ran_nil _ _ _ _ }

  -- all pairs
  module _ {s r : State} {us : List (ℕ × ℕ)} {old new : Listeners P T} (far : UnitsSoFar listens listens_image s us old r [] new) where
    pub so-far-answer : ((step s (unit_clauses us)).refused ≡ None) × (r ≡ (step s (unit_clauses us)).after)
    so-far-answer = answers-accept (step-unit_clauses s us ∙ far.same_outcome) refl

    pub so-far-delivered : WellFormed s → DeliveredWhole (Emits s (unit_clauses us)) listens listens_image old new
    so-far-delivered form =
        (far.told, traced-emits s (unit_clauses us) (traced_units s us) far.told form (units-traced s us) (sym (far.same_steps ∙ append-nil far.told)), far.ran)

  -- up to a pair, and those after it
  module _ {s r : State} {us rest : List (ℕ × ℕ)} {p : ℕ × ℕ} {old mid : Listeners P T} (far : UnitsSoFar listens listens_image s us old r (p ∷ rest) mid) where
    abbrev later : List NamedStep
    later = later_steps (step_unit r p).refused (traced_units (step_unit r p).after rest)

    all-steps : traced_units s us ≡ far.told ++ (unit_steps r p ++ later)
    all-steps = far.same_steps ∙ grind arith

    -- one pair more
    pub so-far-more : (t : State) (new : Listeners P T) → ((step_unit r p).refused ≡ None) × (t ≡ (step_unit r p).after) →
        DeliveredWhole (λ es. es ≡ unit_steps r p) listens listens_image mid new → UnitsSoFar listens listens_image s us old t rest new
    so-far-more t new h more =
        let left : later ≡ traced_units t rest = rw (h.0, ← h.1) refl in
        record {
          same_outcome = far.same_outcome ∙ grind (arith, h.0, h.1);
          told = far.told ++ more.0;
          same_steps = all-steps ∙ rw (← more.1, left) (sym (append_assoc far.told more.0 (traced_units t rest)));
          ran = both_ran_append _ _ far.told more.0 _ _ _ _ _ _ far.ran more.2;
        }

    -- the pair is rejected, or a processor faults at it
    pub so-far-refused : (e : StepFault) (t : State) → AnswersOutcome {A = Unit {0}} (Err e) (step_unit r p) t →
        AnswersOutcome {A = Unit {0}} (Err e) (step s (unit_clauses us)) t
    so-far-refused e t h = grind (arith, step-unit_clauses s us, far.same_outcome, h)

    with-later : (e : StepFault) (t : State) (new : Listeners P T) → AnswersOutcome {A = Unit {0}} (Err e) (step_unit r p) t →
        DeliveredList {A = Unit {0}} (Err e) (λ es. es ≡ unit_steps r p) listens listens_image mid new →
        DeliveredList {A = Unit {0}} (Err e) (λ es. es ≡ unit_steps r p ++ later) listens listens_image mid new
    with-later (Refused cause) t new h more = (more.0, more.1 ∙ sym (append-nil (unit_steps r p)) ∙ grind (arith, h.0), more.2)
    with-later Processor t new h more =
        beginning-first listens listens_image (λ es. es ≡ unit_steps r p) (λ es. es ≡ unit_steps r p ++ later) later mid new (λ es e. ap (λ xs. xs ++ later) e) more
    with-later OutOfMemory t new h more = tt

    pub so-far-stopped : (e : StepFault) (t : State) (new : Listeners P T) → WellFormed s → AnswersOutcome {A = Unit {0}} (Err e) (step_unit r p) t →
        DeliveredList {A = Unit {0}} (Err e) (λ es. es ≡ unit_steps r p) listens listens_image mid new
        → DeliveredList {A = Unit {0}} (Err e) (Emits s (unit_clauses us)) listens listens_image old new
    so-far-stopped e t new form h more =
        delivered-second listens listens_image {A = Unit {0}} (λ es. es ≡ unit_steps r p ++ later) (Emits s (unit_clauses us)) far.told old mid new (Err e) far.ran
        (λ es x. traced-emits s (unit_clauses us) (traced_units s us) (far.told ++ es) form (units-traced s us) (ap (λ xs. far.told ++ xs) x ∙ sym all-steps))
        (with-later e t new h more)
