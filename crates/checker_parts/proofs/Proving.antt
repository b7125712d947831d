-- Accepted models and cores prove what the headline says of them.
use Rattle.std.proofs.Common.{◌≡◌, ℕ, Bool, true, List, [], ◌∷◌, ◌++◌, None, refl, sym, subst, append-nil, append_assoc, arith}
use Rattle.checker_rules.specs.Calls.{attempt, count_step}
use Rattle.checker_rules.specs.Covers.{all_sat}
use Rattle.checker_rules.specs.Headline.{EntailsRedundant}
use Rattle.checker_rules.specs.State.{State, Stored, irredundant_true, sat, stored_true}
use Rattle.checker_rules.specs.Step.{Step}
use Rattle.checker_rules.specs.Step.{failed_assumptions}
use Rattle.checker_rules.specs.Steps.{step}
use Rattle.checker_rules.proofs.Models.{cores_fail, models_are_members}
use Rattle.checker_parts.specs.Answers.{IsCovered, IsFold}
use Rattle.checker_parts.specs.Models.{Proves, Refutes, RunProves, RunRefutes, attempted}

-- a step that is accepted
step_proves : (s : State) (t : Step) (ts : List Step) → EntailsRedundant s → IsFold ts s → (step s t).refused ≡ None → Proves t ts s
step_proves s t ts g f h = grind (arith, models_are_members, cores_fail)

-- counting a step changes nothing of that
proves-uncounted : (t : Step) (ts : List Step) (s : State) → Proves t ts (count_step s) → Proves t ts s
proves-uncounted t ts s h = grind arith

pub attempt_proves : (s : State) (t : Step) (ts : List Step) → EntailsRedundant s → IsFold ts s → (attempt s t).refused ≡ None → Proves t ts s
unfolding attempt sat
attempt_proves s t ts g f h = grind (arith, h, proves-uncounted t ts s, step_proves (count_step s) t ts g f)

-- who makes all that is stored true is in the satisfying set
irredundant-stored : (a : ℕ → Bool) (es : List Stored) → stored_true a es ≡ true → irredundant_true a es ≡ true
irredundant-stored a [] h = refl
irredundant-stored a (e ∷ es) h = grind (arith, irredundant-stored a es)

sat-all : (s : State) (a : ℕ → Bool) → all_sat s a ≡ true → sat s a ≡ true
unfolding sat
sat-all s a h = grind (arith, irredundant-stored)

step_refutes : (s : State) (t : Step) (ts : List Step) → EntailsRedundant s → IsCovered ts s → (step s t).refused ≡ None → Refutes t ts
step_refutes s (failed_assumptions c hs) ts g covered h = λ a member all. cores_fail s c hs g h a (sat-all s a (covered a member)) all
step_refutes s _ ts g covered h = tt

pub attempt_refutes : (s : State) (t : Step) (ts : List Step) → EntailsRedundant s → IsCovered ts s → (attempt s t).refused ≡ None → Refutes t ts
unfolding attempt
attempt_refutes s t ts g covered h = grind (arith, h, step_refutes (count_step s) t ts g covered)

-- a run with one more step
pub run_proves-more : (before : List Step) (s : State) (ts : List Step) (t : Step) → RunProves before s ts → Proves t (before ++ ts) (attempted s ts) → RunProves before s (ts ++ t ∷ [])
run_proves-more before s [] t h k = (subst (λ us. Proves t us s) (append-nil before) k, tt)
run_proves-more before s (first ∷ ts) t h k =
    (h.0, run_proves-more (before ++ first ∷ []) (attempt s first).after ts t h.1 (subst (λ us. Proves t us (attempted s (first ∷ ts))) (sym (append_assoc before (first ∷ []) ts)) k))

pub attempted-more : (s : State) (ts : List Step) (t : Step) → attempted s (ts ++ t ∷ []) ≡ (attempt (attempted s ts) t).after
attempted-more s [] t = refl
attempted-more s (first ∷ ts) t = attempted-more (attempt s first).after ts t

pub run_refutes-more : (before ts : List Step) (t : Step) → RunRefutes before ts → Refutes t (before ++ ts) → RunRefutes before (ts ++ t ∷ [])
run_refutes-more before [] t h k = (subst (Refutes t) (append-nil before) k, tt)
run_refutes-more before (first ∷ ts) t h k = (h.0, run_refutes-more (before ++ first ∷ []) ts t h.1 (subst (Refutes t) (sym (append_assoc before (first ∷ []) ts)) k))
