-- A derived clause: its outcome and the steps that show it, part by part.
use Rattle.std.proofs.Common.{◌≡◌, ℕ, Bool, cond, arith, List, [], ◌∷◌, None, Some, Err, ◌∙◌, true, false}
use Rattle.std.proofs.Math.Bool.{and-false}
use Rattle.checker_steps.proofs.Common.{is_tautology, canonical, check, ready, NamedStep, checked_at_clause, named_in, emits_irredundant, Cause}
use Rattle.checker_steps.proofs.Common.{accept, refuse, Outcome, and_then, tautology, State, at_clause, step, id_of, stands, store, check_trace}
use Rattle.checker_steps.proofs.Common.{traced, step-at_clause, AnswersOutcome, store_fault, AnswersStore, Stores, result_of, StoreFault, derived}
use Rattle.checker_steps.proofs.Common.{derived_steps, stored_steps}
use Rattle.clause_store.specs.declared.clauses.StoreClauseResult.{StoreClauseResult}
use Rattle.clause_store.specs.Quiet.{NoListenerFault}
use Rattle.checker_rules.specs.AtClause.{set_previous}
use Rattle.checker_steps.proofs.EmissionLemmas.{answers-accept}

-- what is shown of a clause that passed its check, with these propagations
abbrev pub steps_of : State → Bool → List ℕ → List ℕ → List NamedStep
steps_of s redundant c ids = cond (stands c s) (emits_irredundant redundant c s) (named_in s (checked_at_clause s.next redundant c ids) ∷ [])

-- by the answer of storing it
stored_steps-is : (s : State) (redundant : Bool) (c ids : List ℕ) (did : StoreClauseResult) (id : ℕ) → did ≡ result_of c redundant s →
    id ≡ id_of c s → stored_steps did s.known id redundant c ids ≡ steps_of s redundant c ids
stored_steps-is s redundant c ids did id d i = rw (d, i) (grind (arith, and-false))

-- what is left after the check, passed or rejected
pub check-after : (s : State) (c hs : List ℕ) → (check s c hs accept).after ≡ ready s c
check-after s c hs = grind arith

module _ (s : State) (redundant : Bool) (c hs : List ℕ) where
  -- the check rejects
  pub derived-unchecked : (cause : Cause) → (check s c hs accept).refused ≡ Some cause → derived s redundant c hs ≡ refuse cause (check s c hs accept).after
  derived-unchecked cause e = grind (arith, e)

  pub steps-refused : (cause : Cause) → (derived s redundant c hs).refused ≡ Some cause → [] ≡ derived_steps s redundant c hs
  steps-refused cause e = rw e

  pub steps-unchecked : (cause : Cause) → (check s c hs accept).refused ≡ Some cause → [] ≡ derived_steps s redundant c hs
  steps-unchecked cause e = grind (arith, e)

  -- the check passes, and leaves t
  module _ {t : State} (passed : ((check s c hs accept).refused ≡ None) × (t ≡ (check s c hs accept).after)) where
    -- the clause is stored, which leaves u
    module _ {u : State} {id : ℕ} {did : StoreClauseResult} (stored : Stores c redundant t u id did) where
      pub derived-answer : ((derived s redundant c hs).refused ≡ None) × (u ≡ (derived s redundant c hs).after)
      derived-answer =
          let is : derived s redundant c hs ≡ accept (store c redundant t) = grind (arith, passed.0, passed.1, stored.room) in answers-accept is stored.after

      pub derived-steps : stored_steps did t.known id redundant c (check_trace (ready s c) c hs) ≡ derived_steps s redundant c hs
      derived-steps =
          stored_steps-is t redundant c (check_trace (ready s c) c hs) did id stored.result_is stored.id_is ∙ rw (derived-answer.0, passed.1 ∙ check-after s c hs)

    -- the clause is not stored
    pub answers-unstored : (u : State) (fault : StoreFault) → AnswersStore (Err fault) c redundant t u →
        AnswersOutcome {A = Unit {0}} (Err (store_fault fault)) (derived s redundant c hs) u
    answers-unstored u fault h = grind (arith, passed.0, passed.1, h)

-- it is no fault of a processor
pub quiet-unstored : (fault : StoreFault) → NoListenerFault {A = Unit {0}} (Err (store_fault fault))
quiet-unstored fault = grind arith

-- ---- the step of a derived clause, part by part

-- an irredundant clause becomes the previous one, with its id
abbrev pub kept_as_previous : Bool → List ℕ → ℕ → State → State
kept_as_previous redundant c id s = cond redundant s (set_previous c id s)

module _ (s : State) (redundant : Bool) (ls hs : List ℕ) where
  -- a tautology is rejected
  pub at-tautology : is_tautology (canonical ls) ≡ true → step s (at_clause redundant ls hs) ≡ refuse tautology s
  at-tautology h = step-at_clause s redundant ls hs ∙ rw h

  -- c is its canonical list, without opposite literals
  module _ (c : List ℕ) (list : c ≡ canonical ls) (apart : is_tautology (canonical ls) ≡ false) where
    -- the clause that is stored becomes the previous one
    abbrev after : State → Outcome
    after q = accept (kept_as_previous redundant c (id_of c (ready s c)) q)

    at-derived : step s (at_clause redundant ls hs) ≡ and_then (derived s redundant c hs) after
    at-derived = step-at_clause s redundant ls hs ∙ rw (apart, ← list) (grind arith)

    -- the check or a counter rejects
    pub at-refused : (cause : Cause) → (derived s redundant c hs).refused ≡ Some cause → step s (at_clause redundant ls hs) ≡ refuse cause (derived s redundant c hs).after
    at-refused cause e = at-derived ∙ grind (arith, e)

    -- the clause is stored, under this id
    pub at-stored : (t u : State) (id : ℕ) → ((derived s redundant c hs).refused ≡ None) × (t ≡ (derived s redundant c hs).after) → id ≡ id_of c (ready s c) → u ≡ kept_as_previous redundant c id t
        → ((step s (at_clause redundant ls hs)).refused ≡ None) × (u ≡ (step s (at_clause redundant ls hs)).after)
    at-stored t u id h named kept = grind (arith, at-derived, h.0, h.1, named, kept)

    -- what it delivers on is what it emits
    pub at-steps : derived_steps s redundant c hs ≡ traced s (at_clause redundant ls hs)
    at-steps = grind (arith, list, at-derived)
