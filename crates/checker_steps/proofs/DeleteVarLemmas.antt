-- The step `DeleteVar`, part by part.
use Rattle.std.proofs.Common.{◌≡◌, ℕ, ◌+◌, ◌*◌, ◌<◌, ◌≤◌, Bool, true, false, cond, ◌||◌, eqb, ltb, nat_lt, List, [], ◌∷◌, get_or, Option, None, Some}
use Rattle.std.proofs.Common.{refl, sym, ap, ◌∙◌, arith, suc, ◌++◌, is_some, ◌⊎◌, Result, Err, ⊎_elim}
use Rattle.checker_steps.proofs.Common.{list_any, lt-ltb, nat_tests, has, var_of, checked_at_clause, named_in, holds_var, is_conflict_on}
use Rattle.checker_steps.proofs.Common.{free_var, emits_closing, Emits, know, Cause, Outcome, accept, and_then, and_then_by, deleted_var_has_clauses}
use Rattle.checker_steps.proofs.Common.{deleted_var_named, refuse, State, Stored, StoredUnit, unit_of, Known, delete_var, step, id_limit, known_at}
use Rattle.checker_steps.proofs.Common.{step-delete_var, indexes_of, AnswersOutcome, StepFault, Refused, Processor, OutOfMemory, Listeners, Listens}
use Rattle.checker_steps.proofs.Common.{ListensImage, DeliveredList, DeliveredWhole}
use Rattle.clause_store.specs.Counts.{AreCounts, times_held}
use Rattle.checker_parts.specs.Variables.{known_of_data}
use Rattle.checker_parts.specs.declared.variables.VarData.{VarData}
use Rattle.sat_formula.specs.declared.lit.Var.{Var}
use Rattle.checker_steps.specs.DeletedVar.{conflict_on, emits_close, close_on, emits_dropped}
use Rattle.checker_steps.proofs.EmissionLemmas.{emits-accepted, emits-refused}
use Rattle.checker_steps.proofs.DeliveryLemmas.{beginning-first, delivered-second}

-- a variable has two literals
var_is : (l x : ℕ) → eqb (var_of l) x ≡ (eqb (2 * x) l || eqb (2 * x + 1) l)
var_is l x = grind (arith, nat_tests)

holds_var-has : (x : ℕ) (c : List ℕ) → holds_var x c ≡ (has (2 * x) c || has (2 * x + 1) c)
holds_var-has x [] = refl
holds_var-has x (l ∷ c) = grind (arith, var_is l x, holds_var-has x c)

-- whether some clause is counted
counted : (b : Bool) (n : ℕ) → nat_lt 0 (cond b 1 0 + n) ≡ (b || nat_lt 0 n)
counted b n = grind (arith, nat_tests)

held-var : (x : ℕ) (es : List Stored) → list_any (λ e. holds_var x e.lits) es ≡ (nat_lt 0 (times_held (2 * x) es) || nat_lt 0 (times_held (2 * x + 1) es))
held-var x [] = refl
held-var x (e ∷ es) =
    grind (arith, holds_var-has x e.lits, held-var x es, counted (has (2 * x) e.lits) (times_held (2 * x) es), counted (has (2 * x + 1) e.lits) (times_held (2 * x + 1) es))

-- a variable is held where one of its literals is counted
module _ (counts : List ℕ) (n x : ℕ) (es : List Stored) (a : AreCounts counts n es) where
  held-by : (k l : ℕ) (b : Bool) → k ≡ get_or counts l 0 → l ≡ 2 * x + 0 → nat_lt 0 k ≡ b →
      list_any (λ e. holds_var x e.lits) es ≡ (b || nat_lt 0 (get_or counts (2 * x + 1) 0))
  held-by k l b e p h = grind (arith, held-var)

  pub held-positive : (k l : ℕ) → k ≡ get_or counts l 0 → l ≡ 2 * x + 0 → 0 < k → nat_lt 0 k ≡ list_any (λ e. holds_var x e.lits) es
  held-positive k l e p some = let is : nat_lt 0 k ≡ true = grind (arith, nat_tests, some) in is ∙ sym (held-by k l true e p is)

  pub held-negative : (k l k' l' : ℕ) → k ≡ get_or counts l 0 → l ≡ 2 * x + 0 → k ≤ 0 → k' ≡ get_or counts l' 0 → l' ≡ 2 * x + 1 → nat_lt 0 k' ≡ list_any (λ e. holds_var x e.lits) es
  held-negative k l k' l' e p none e' p' = ap (nat_lt 0) (e' ∙ ap (λ m. get_or counts m 0) p') ∙ sym (held-by k l false e p (grind (arith, nat_tests, none)))

-- the conflict on the unit
conflict-none : (u : Option StoredUnit) (p : Option (ℕ × ℕ)) → None ≡ conflict_on u p → is_conflict_on u p ≡ false
conflict-none u p e = grind arith

-- what closing it emits
module _ (x : ℕ) (s : State) where
  pub emits-none : None ≡ conflict_on (unit_of s.units x) s.conflict → emits_close x s ≡ []
  emits-none none = ap (λ b. cond b (emits_closing s s.conflict) []) (conflict-none _ s.conflict none)

  module _ (q : ℕ × ℕ) (some : Some q ≡ conflict_on (unit_of s.units x) s.conflict) where
    emits-by : (b : Bool) → ltb s.next id_limit ≡ b → emits_close x s ≡ cond b (named_in s (checked_at_clause s.next false [] (q.0 ∷ q.1 ∷ [])) ∷ []) []
    emits-by b room = grind arith

    pub emits-taken : s.next < id_limit → emits_close x s ≡ named_in s (checked_at_clause s.next false [] (q.0 ∷ q.1 ∷ [])) ∷ []
    emits-taken room = emits-by true (lt-ltb s.next id_limit room)

    pub emits-exhausted : (s.next < id_limit → ⊥) → emits_close x s ≡ []
    emits-exhausted room = emits-by false (grind (arith, room))

-- ---- the step `DeleteVar` as a whole

-- the tests, and what comes after them
abbrev is_named : ℕ → State → Bool
is_named x t = is_some (known_at t.known x).name

abbrev is_in_clause : ℕ → State → Bool
is_in_clause x t = list_any (λ e. holds_var x e.lits) t.clauses

abbrev tested : (named held : Bool) → State → Outcome → Outcome
tested named held t o = cond named (refuse deleted_var_named t) (cond held (refuse deleted_var_has_clauses t) o)

module _ (s t : State) (x : ℕ) (is : t ≡ know (suc x) s) where
  delete-by : (named held : Bool) → is_named x t ≡ named → is_in_clause x t ≡ held →
      step s (delete_var x) ≡ tested named held t (and_then (close_on x t) (λ r. accept (free_var x r)))
  delete-by named held n h = grind (arith, step-delete_var)

  pub delete-named : is_named x t ≡ true → step s (delete_var x) ≡ refuse deleted_var_named t
  delete-named named = delete-by true (is_in_clause x t) named refl

  pub delete-held : is_named x t ≡ false → is_in_clause x t ≡ true → step s (delete_var x) ≡ refuse deleted_var_has_clauses t
  delete-held unnamed held = delete-by false true unnamed held

  module _ (unnamed : is_named x t ≡ false) (free : is_in_clause x t ≡ false) where
    closed-by : (r : Option Cause) → (close_on x t).refused ≡ r → step s (delete_var x) ≡ and_then_by r (close_on x t).after (λ r. accept (free_var x r))
    closed-by r h = delete-by false false unnamed free ∙ ap (λ r. and_then_by r (close_on x t).after (λ r. accept (free_var x r))) h

    -- where closing is rejected
    pub delete-unclosed : (cause : Cause) → (close_on x t).refused ≡ Some cause → step s (delete_var x) ≡ refuse cause (close_on x t).after
    delete-unclosed cause h = closed-by (Some cause) h

    -- and where it is not
    pub delete-closed : (close_on x t).refused ≡ None → step s (delete_var x) ≡ accept (free_var x (close_on x t).after)
    delete-closed h = closed-by None h

    -- what is emitted
    emits-closed : (close_on x t).refused ≡ None → Emits s (delete_var x) (emits_close x t ++ emits_dropped x t)
    emits-closed h = emits-accepted s (delete_var x) _ (ap (λ (o : Outcome). o.refused) (delete-closed h)) (ap (λ r. emits_close x r ++ emits_dropped x r) is)

-- the name of a variable, as the code reads it
some-indexes_of : (o : Option Var) → is_some (indexes_of o) ≡ is_some o
some-indexes_of o = grind arith

pub named-is : (d : VarData) (k : Known) (b : Bool) → known_of_data d ≡ k → b ≡ is_some d.user_var → is_some k.name ≡ b
named-is d k b read is = ap (λ (x : Known). is_some x.name) (sym read) ∙ some-indexes_of d.user_var ∙ sym is

-- a conflict whose closing is rejected emits nothing, and one that emits is closed
close-by : (x : ℕ) (t : State) → ((close_on x t).refused ≡ None) ⊎ (emits_close x t ≡ [])
close-by x t = grind arith

-- a list with an element is not empty
not_empty : {A : Type 0} (xs : List A) (y : A) (ys : List A) → xs ++ y ∷ ys ≡ [] → ⊥
not_empty [] y ys e = cc
not_empty (x ∷ xs) y ys e = cc

module _ {P T : Type 0} (listens : Listens P) (listens_image : ListensImage T)
    (s t : State) (x : ℕ) (is : t ≡ know (suc x) s) (unnamed : is_named x t ≡ false) (free : is_in_clause x t ≡ false) where
  emits : (close_on x t).refused ≡ None → Emits s (delete_var x) (emits_close x t ++ emits_dropped x t)
  emits closed = emits-closed s t x is unnamed free closed

  -- a closing that is rejected, or delivered on to a fault, ends the step
  pub delivered-unclosed : (e : StepFault) (r : State) (old new : Listeners P T) → AnswersOutcome {A = Unit {0}} (Err e) (close_on x t) r →
      DeliveredList {A = Unit {0}} (Err e) (λ es. es ≡ emits_close x t) listens listens_image old new
      → DeliveredList {A = Unit {0}} (Err e) (Emits s (delete_var x)) listens listens_image old new
  delivered-unclosed (Refused cause) r old new a h =
      let none = ⊎_elim {C = emits_close x t ≡ []} (λ closed. absurd (cc (a.0, closed))) (λ e. e) (close-by x t) in
      let refused = ap (λ (o : Outcome). o.refused) (delete-unclosed s t x is unnamed free _ a.0) in
      (h.0, rw (h.1, none) (emits-refused s (delete_var x) [] _ refused refl), h.2)
  delivered-unclosed Processor r old new a h =
      let closed = ⊎_elim {C = (close_on x t).refused ≡ None} (λ c. c) (λ e. absurd (not_empty h.0 h.1 h.2 (h.3 ∙ e))) (close-by x t) in
      beginning-first listens listens_image (λ es. es ≡ emits_close x t) (Emits s (delete_var x)) (emits_dropped x t)
      old new (λ es e. rw e (emits closed)) h
  delivered-unclosed OutOfMemory r old new a h = tt

  -- the unit is delivered on after it
  pub delivered-dropped : (res : Result (Unit {0}) StepFault) (r : State) (old mid new : Listeners P T) → (close_on x t).refused ≡ None →
      r.units ≡ t.units → r.known ≡ t.known → DeliveredWhole (λ es. es ≡ emits_close x t) listens listens_image old mid
      → DeliveredList res (λ es. es ≡ emits_dropped x r) listens listens_image mid new →
      DeliveredList res (Emits s (delete_var x)) listens listens_image old new
  delivered-dropped res r old mid new closed units known first h = grind (arith, delivered-second, emits)
