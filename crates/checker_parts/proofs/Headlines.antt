-- The headline of a call, and the unsatisfiable side, follow from its answer by the definitions.
use Rattle.std.proofs.Common.{◌≡◌, ℕ, Bool, List, [], ◌∷◌, ◌++◌, Result, Ok, Err, sym, ap, ◌∙◌, arith}
use Rattle.checker_rules.specs.Calls.{attempt, closing_conflict}
use Rattle.checker_rules.specs.Covers.{CoversAfter}
use Rattle.checker_rules.specs.Headline.{EntailsRedundant, SetAfter, changed, holds}
use Rattle.checker_rules.specs.Outcome.{Outcome}
use Rattle.checker_rules.specs.State.{State, sat}
use Rattle.checker_rules.specs.Step.{Step}
use Rattle.checker_rules.specs.Steps.{step}
use Rattle.checker_rules.proofs.Covering.{steps_cover}
use Rattle.checker_rules.proofs.Keeping.{step_keeps}
use Rattle.checker_rules.proofs.Runs.{changed_same, holds_last}
use Rattle.checker_rules.proofs.WholeRuns.{close_keeps, covers_attempt, covers_close, covers_same, keeps_attempt}
use Rattle.checker_parts.specs.Answers.{AnswersStep, AnswersText, CoversFold, IsCovered, IsFold, SetsFold, UnlessFailed, UnlessTextFailed}
use Rattle.checker_parts.specs.declared.error.CheckerError.{CheckerError}
use Rattle.checker_parts.specs.declared.error.DimacsError.{DimacsError}
use Rattle.checker_parts.specs.declared.error.DimacsError.TheVariants.{Checker}
use Rattle.checker_parts.specs.declared.error.CheckerError.TheVariants.{CheckFailed, ProofProcessorError, OutOfMemory, Failed}

-- the answers of a call
abbrev ok_answer : Result (Unit {0}) CheckerError
ok_answer = Ok tt

abbrev err_answer : CheckerError → Result (Unit {0}) CheckerError
err_answer e = Err e

-- the members after one more step
fold-last : (ts : List Step) (t : Step) (p : (ℕ → Bool) → Bool) (s : State) → ((a : ℕ → Bool) → p a ≡ holds ts a) → ((a : ℕ → Bool) → sat s a ≡ changed t p a) → IsFold (ts ++ t ∷ []) s
fold-last ts t p s f h a = h a ∙ changed_same t p (holds ts) f a ∙ sym (holds_last ts t a)

-- one step, from what its outcome does to the set
pub sets_fold : (s : State) (t : Step) (o : Outcome) → SetAfter (sat s) t o.refused o.after → (ts : List Step) → IsFold ts s →
    (r : Result (Unit {0}) CheckerError) (u : State) → AnswersStep r o u → SetsFold r ts t u
sets_fold s t o k ts f (Ok x) u h = fold-last ts t (sat s) u f (λ a. grind (arith, h, k))
sets_fold s t o k ts f (Err (CheckFailed number cause debug_step)) u h = λ a. ap (λ w. sat w a) h.1 ∙ grind (arith, h.0, k) ∙ f a
sets_fold s t o k ts f (Err (ProofProcessorError cause)) u h = tt
sets_fold s t o k ts f (Err OutOfMemory) u h = tt
sets_fold s t o k ts f (Err Failed) u h = tt
sets_fold s t o k ts f _ u h = absurd h

pub covers_fold : (t : Step) (o : Outcome) (ts : List Step) → CoversAfter (holds ts) t o.refused o.after → (r : Result (Unit {0}) CheckerError) (u : State) → AnswersStep r o u → CoversFold r ts t u
covers_fold t o ts k r u h = grind (arith, covers_same, holds_last)

-- `check_step` and `add_clause`
pub sets_fold-step : (s : State) (t : Step) (ts : List Step) (r : Result (Unit {0}) CheckerError) (u : State) → EntailsRedundant s → IsFold ts s → AnswersStep r (step s t) u → SetsFold r ts t u
sets_fold-step s t ts r u g f h = sets_fold s t (step s t) (step_keeps s t g).1 ts f r u h

pub covers_fold-step : (s : State) (t : Step) (ts : List Step) (r : Result (Unit {0}) CheckerError) (u : State) → IsCovered ts s → AnswersStep r (step s t) u → CoversFold r ts t u
covers_fold-step s t ts r u k h = covers_fold t (step s t) ts (steps_cover (holds ts) s t k) r u h

-- a proof step, counted
pub sets_fold-attempt : (s : State) (t : Step) (ts : List Step) (r : Result (Unit {0}) CheckerError) (u : State) → EntailsRedundant s → IsFold ts s → AnswersStep r (attempt s t) u → SetsFold r ts t u
sets_fold-attempt s t ts r u g f h = sets_fold s t (attempt s t) (keeps_attempt s t g).1 ts f r u h

pub covers_fold-attempt : (s : State) (t : Step) (ts : List Step) (r : Result (Unit {0}) CheckerError) (u : State) → IsCovered ts s → AnswersStep r (attempt s t) u → CoversFold r ts t u
covers_fold-attempt s t ts r u k h = covers_fold t (attempt s t) ts (covers_attempt (holds ts) s t k) r u h

-- an outcome that changes no set, and one that keeps what the members make true
pub unless_failed : (P : State → Type 0) (o : Outcome) → P o.after → (r : Result (Unit {0}) CheckerError) (u : State) → AnswersStep r o u → UnlessFailed r (P u)
unless_failed P o k r u h = grind arith

-- a closing conflict
pub sets_fold-closing : (s : State) (ts : List Step) (r : Result (Unit {0}) CheckerError) (u : State) → EntailsRedundant s → IsFold ts s →
    AnswersStep r (closing_conflict s) u → UnlessFailed r (IsFold ts u)
sets_fold-closing s ts r u g f h = unless_failed (IsFold ts) (closing_conflict s) (λ a. (close_keeps s g).1 a ∙ f a) r u h

pub covers_fold-closing : (s : State) (ts : List Step) (r : Result (Unit {0}) CheckerError) (u : State) → IsCovered ts s → AnswersStep r (closing_conflict s) u → UnlessFailed r (IsCovered ts u)
covers_fold-closing s ts r u k h = unless_failed (IsCovered ts) (closing_conflict s) (covers_close (holds ts) s k) r u h

-- the clauses of a text
pub sets_text : {P : Type 0} (o : Outcome) (u : State) → ((r : Result (Unit {0}) CheckerError) → AnswersStep r o u → UnlessFailed r P) →
    (r : Result (Unit {0}) DimacsError) → AnswersText r o u → UnlessTextFailed r P
sets_text o u k (Err (Checker e)) h = k (err_answer e) h
sets_text o u k _ h = k ok_answer h
