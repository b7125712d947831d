-- The step of a failed core, part by part.
use Rattle.std.proofs.Common.{◌≡◌, ℕ, ◌<◌, Bool, true, false, cond, eqb, List, [], ◌∷◌, map, Option, None, Some, refl, ap, ◌∙◌, subst, arith}
use Rattle.checker_steps.proofs.Common.{both_ways, eq-eqb, false_from_ne_true, or_left, or_right}
use Rattle.checker_steps.proofs.Common.{nat_tests, has, is_canonical, is_tautology, negate, canonical, check, ready}
use Rattle.checker_steps.proofs.Common.{NamedStep, checked_failed_assumptions, named_in, Cause, Outcome, accept}
use Rattle.checker_steps.proofs.Common.{refuse, State, failed_assumptions, step, check_trace, traced, traced_when}
use Rattle.checker_steps.proofs.Common.{step-failed_assumptions, steps_unless, core_cause, core_clause, core_steps}
use Rattle.sat_rules.proofs.Members.{any_at, any_from}
use Rattle.checker_rules.proofs.TracedSteps.{core_apart}
use Rattle.checker_steps.proofs.DerivedLemmas.{check-after}

-- negations keep the order of literals of different variables
negate-below : (l m : ℕ) → l < m → (m ≡ negate l → ⊥) → negate l < negate m
negate-below l m h apart = grind (arith, nat_tests, h, apart)

apart-tail : (l : ℕ) (c : List ℕ) → is_tautology (l ∷ c) ≡ false → is_tautology c ≡ false
apart-tail l c h = false_from_ne_true _ (λ t.
    let k = any_at (λ x. has (negate x) c) c t in
    both_ways (is_tautology (l ∷ c)) h (any_from (λ x. has (negate x) (l ∷ c)) (l ∷ c) k.0 (or_right (eqb k.0 l) (has k.0 c) k.1) (or_right (eqb (negate k.0) l) (has (negate k.0) c) k.2)))

apart-next : (l m : ℕ) (c : List ℕ) → is_tautology (l ∷ m ∷ c) ≡ false → m ≡ negate l → ⊥
apart-next l m c h e = grind (arith, both_ways, any_from, or_left, eq-eqb, or_right)

-- the negations of a canonical core without opposite literals are canonical
pub negations-canonical : (c : List ℕ) → is_canonical c ≡ true → is_tautology c ≡ false → canonical (map negate c) ≡ map negate c
negations-canonical [] h t = refl
negations-canonical (l ∷ []) h t = refl
negations-canonical (l ∷ m ∷ c) h t =
    grind (arith, nat_tests, negate-below l m, apart-next l m c t, apart-tail l (m ∷ c) t, negations-canonical (m ∷ c))

-- they hold no opposite literals
pub negations-apart : (c : List ℕ) → is_canonical c ≡ true → is_tautology c ≡ false → is_tautology (map negate c) ≡ false
negations-apart c h t = subst (λ (x : List ℕ). is_tautology x ≡ false) (negations-canonical c h t) (core_apart c t)

abbrev by_cause : Option Cause → State → Outcome → Outcome
by_cause None s o = o
by_cause (Some cause) s o = refuse cause s

-- the outcome of a core that is allowed
abbrev ended_by : Bool → State → (c hs : List ℕ) → Outcome
ended_by opposite s c hs = cond opposite (accept s) (check s (core_clause c) hs accept)

-- a core that was checked, with the names of t
abbrev core_shown : State → State → (c hs : List ℕ) → List NamedStep
core_shown t s c hs = named_in t (checked_failed_assumptions c (check_trace (ready s (core_clause c)) (core_clause c) hs)) ∷ []

-- c is the canonical list of the core
module _ (s : State) (ls hs c : List ℕ) (list : c ≡ canonical ls) where
  core-by : (cause : Option Cause) → core_cause s c ≡ cause → step s (failed_assumptions ls hs) ≡ by_cause cause s (ended_by (is_tautology c) s c hs)
  core-by cause e = grind (arith, step-failed_assumptions)

  -- it is rejected before its check
  pub core-refused : (cause : Cause) → core_cause s c ≡ Some cause → step s (failed_assumptions ls hs) ≡ refuse cause s
  core-refused cause e = core-by (Some cause) e

  module _ (allowed : core_cause s c ≡ None) where
    core-ended : (opposite : Bool) → is_tautology c ≡ opposite → step s (failed_assumptions ls hs) ≡ ended_by opposite s c hs
    core-ended opposite e = core-by None allowed ∙ ap (λ b. ended_by b s c hs) e

    -- it has opposite literals
    pub core-opposites : is_tautology c ≡ true → step s (failed_assumptions ls hs) ≡ accept s
    core-opposites e = core-ended true e

    -- it has none
    pub core-checked : is_tautology c ≡ false → step s (failed_assumptions ls hs) ≡ check s (core_clause c) hs accept
    core-checked e = core-ended false e

    pub core-opposites-steps : is_tautology c ≡ true → named_in s (checked_failed_assumptions c []) ∷ [] ≡ traced s (failed_assumptions ls hs)
    core-opposites-steps e = rw (core-opposites e, ← list, e)

    same-when : is_tautology c ≡ false → (x : Option Cause) → steps_unless x (core_shown (ready s (core_clause c)) s c hs) ≡ traced_when x s (failed_assumptions ls hs)
    same-when e None = rw (← list, e)
    same-when e (Some cause) = refl

    pub core-traced : is_tautology c ≡ false → core_steps s c hs ≡ traced s (failed_assumptions ls hs)
    core-traced e = rw (core-checked e) (same-when e (check s (core_clause c) hs accept).refused)

-- the check rejects
pub core-unchecked : (s : State) (c hs : List ℕ) (cause : Cause) → (check s (core_clause c) hs accept).refused ≡ Some cause → [] ≡ core_steps s c hs
core-unchecked s c hs cause e = rw e

-- the check passes, and leaves t
pub core-told : (s t : State) (c hs : List ℕ) → ((check s (core_clause c) hs accept).refused ≡ None) × (t ≡ (check s (core_clause c) hs accept).after)
    → named_in t (checked_failed_assumptions c (check_trace (ready s (core_clause c)) (core_clause c) hs)) ∷ [] ≡ core_steps s c hs
core-told s t c hs h = rw h.0 (ap (λ u. core_shown u s c hs) (h.1 ∙ check-after s (core_clause c) hs))
