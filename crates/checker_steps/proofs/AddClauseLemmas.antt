-- The step of an input clause, by its cause.
use Rattle.std.proofs.Common.{◌≡◌, ℕ, ◌<◌, ◌-◌, ◌^◌, true, false, ltb, List, Option, Some, None, refl, ◌∙◌, arith, Err, lt-ltb, le-ltb, [], ap}
use Rattle.checker_steps.proofs.Common.{lt-leb, canonical, NamedStep, Emits, emits_input, some_not_sampling, know_clause, Cause, Outcome, accept}
use Rattle.checker_steps.proofs.Common.{ids_exhausted, not_sampling, refuse, State, add_clause, step, count_limit, count_of}
use Rattle.checker_steps.proofs.Common.{step-add_clause, cause_of, AnswersOutcome, UnlessStopped, Refused, store_fault, UnlessOutOfMemory, StoreFault}
use Rattle.checker_steps.proofs.Common.{answers-refuse, IsFaultOf, early_cause, input_cause, taken}
use Rattle.checker_rules.specs.Store.{id_limit}
use Rattle.checker_parts.specs.declared.error.CheckCause.{CheckCause}
use Rattle.checker_steps.specs.declared.steps.add_clause.Added.{Added}
use Rattle.checker_steps.proofs.EmissionLemmas.{emits-accepted}

-- rejected with the cause, where there is one
abbrev pub by_cause : Option Cause → State → Outcome → Outcome
by_cause None s o = o
by_cause (Some cause) s o = refuse cause s

-- where `unsat` is recorded nothing happens
pub add-unsat : (s : State) (ls : List ℕ) → s.unsat ≡ true → step s (add_clause ls) ≡ accept s
add-unsat s ls h = step-add_clause s ls ∙ rw h

add-by : (s : State) (ls : List ℕ) → s.unsat ≡ false → step s (add_clause ls) ≡ by_cause (input_cause s (canonical ls)) s (accept (taken s (canonical ls)))
add-by s ls live = step-add_clause s ls ∙ grind (arith, live)

pub add-accepts : (s : State) (ls : List ℕ) → s.unsat ≡ false → input_cause s (canonical ls) ≡ None → step s (add_clause ls) ≡ accept (taken s (canonical ls))
add-accepts s ls live e = add-by s ls live ∙ grind (arith, e)

-- the rejection of an input clause
pub answers-input : (msg : CheckCause) (s : State) (ls : List ℕ) → s.unsat ≡ false → input_cause s (canonical ls) ≡ Some (cause_of msg) →
    AnswersOutcome {A = Unit {0}} (Err (Refused msg)) (step s (add_clause ls)) s
answers-input msg s ls live named =
    answers-refuse (cause_of msg) (step s (add_clause ls)) s s (add-by s ls live ∙ grind (arith, named)) refl

-- the causes in turn
pub id-left : (n : ℕ) → n < 2 ^ 64 → (n ≡ 2 ^ 64 - 1 → ⊥) → n < id_limit
unfolding id_limit
id-left n h e = omega (arith, h, e)

no-id : (n : ℕ) → n ≡ 2 ^ 64 - 1 → ltb n id_limit ≡ false
unfolding id_limit
no-id n e = le-ltb n (2 ^ 64 - 1) (omega arith)

module _ (s : State) (c : List ℕ) where
  pub cause-sampling : true ≡ some_not_sampling s c → Some not_sampling ≡ early_cause s c
  cause-sampling e = rw (← e)

  module _ (e : false ≡ some_not_sampling s c) where
    pub cause-ids : s.next ≡ 2 ^ 64 - 1 → Some ids_exhausted ≡ early_cause s c
    cause-ids n = rw (← e, no-id s.next n)

    pub cause-none : s.next < id_limit → early_cause s c ≡ None
    cause-none room = rw (← e, lt-ltb s.next id_limit room)

-- an early cause is the first, and where there is none the copies decide
pub early-first : (s : State) (c : List ℕ) (cause : Cause) → early_cause s c ≡ Some cause → input_cause s c ≡ Some cause
early-first s c cause e = grind (arith, e)

module _ (s : State) (c : List ℕ) (none : early_cause s c ≡ None) where
  pub early-ids : s.next < id_limit
  early-ids = grind (arith, none)

  pub early-room : count_of false c s.clauses < count_limit → input_cause s c ≡ None
  early-room few = grind (arith, none, lt-leb count_limit (count_of false c s.clauses) few)

-- the rejection where the clause was not stored
pub answers-unstored_input : (fault : StoreFault) (s t : State) (ls : List ℕ) → s.unsat ≡ false → early_cause s (canonical ls) ≡ None →
    IsFaultOf fault (canonical ls) s t → AnswersOutcome {A = Unit {0}} (Err (store_fault fault)) (step s (add_clause ls)) t
answers-unstored_input fault s t ls live none h = grind (arith, answers-input)

-- what holds of the store unless memory was refused holds unless the step gave up
pub unless-unstored : (P : Type 0) (fault : StoreFault) → UnlessOutOfMemory {A = Added} (Err fault) P → UnlessStopped {A = Unit {0}} (Err (store_fault fault)) P
unless-unstored P fault h = grind arith

-- ---- what an input clause emits, by its cause

-- an input clause that is accepted
pub emits-added : (s : State) (ls : List ℕ) (es : List NamedStep) → s.unsat ≡ false → input_cause s (canonical ls) ≡ None →
    es ≡ emits_input (canonical ls) (know_clause (canonical ls) s) → Emits s (add_clause ls) es
emits-added s ls es live room h = grind (arith, emits-accepted, add-accepts)

-- where `unsat` is recorded nothing is emitted
pub emits-unsat : (s : State) (ls : List ℕ) → s.unsat ≡ true → Emits s (add_clause ls) []
emits-unsat s ls dead = emits-accepted s (add_clause ls) [] (ap (λ (o : Outcome). o.refused) (add-unsat s ls dead)) (rw dead refl)
