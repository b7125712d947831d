-- What follows for the satisfying set from the steps that a run accepts.
--     SoFarSets s steps s'      the steps accepted so far led from s to s'; where s entails its redundant clauses, the fold over the steps and what they prove
--     AnswerSets s steps r s'      the same of the answer
--     sets-begin, sets-go      the loop's start, and a turn of it
--     sets-stand, sets-counted, sets-refused, sets-close      how it ends
use Rattle.std.proofs.Common.{◌≡◌, List, [], ◌∷◌, ◌++◌, Ok, Err, sym, ap, ◌∙◌, arith}
use Rattle.varisat_checker.proofs.Common.{attempt, checks, closes, closing_conflict, count_step, EntailsRedundant, State, Step, AnswersParts}
use Rattle.varisat_checker.proofs.Common.{IsCovered, IsFold, UnlessFailed, CheckerError, covers_fold-attempt, covers_fold-closing, sets_fold-attempt}
use Rattle.varisat_checker.proofs.Common.{sets_fold-closing}
use Rattle.checker_rules.proofs.Openings.{sat-count_step}
use Rattle.checker_rules.proofs.Runs.{append_none}
use Rattle.checker_rules.proofs.WholeRuns.{append_append}
use Rattle.checker_parts.specs.Models.{RunProves, RunRefutes, attempted}
use Rattle.checker_parts.proofs.Proving.{attempt_proves, attempt_refutes, attempted-more, run_proves-more, run_refutes-more}
use Rattle.varisat_checker.proofs.FailingLemmas.{entails-call, Answer, err_answer, ok_answer, unless-always, unless-bind}

-- what follows from a call that accepted these steps
pub record AnswerSets (s : State) (steps : List Step) (r : Answer) (s' : State) : Type 0 where
  pub covers : (before : List Step) → IsCovered before s → UnlessFailed r (IsCovered (before ++ steps) s')
  pub entails : EntailsRedundant s → UnlessFailed r (EntailsRedundant s')
  pub folds : EntailsRedundant s → (before : List Step) → IsFold before s → UnlessFailed r (IsFold (before ++ steps) s')
  pub proves : EntailsRedundant s → (before : List Step) → IsFold before s → RunProves before s steps
  pub refutes : EntailsRedundant s → (before : List Step) → IsCovered before s → RunRefutes before steps

-- the steps that were accepted so far, the fold over them, and what they prove
pub record SoFarSets (s : State) (steps : List Step) (s' : State) : Type 0 where
  pub led : attempted s steps ≡ s'
  pub sets : AnswerSets s steps (Ok tt) s'

pub sets-begin : (s : State) → SoFarSets s [] s
sets-begin s = grind (arith, append_none)

module _ {s : State} {steps : List Step} {s' : State} (p : SoFarSets s steps s') where
  -- a turn of the loop
  pub sets-go : (step : Step) (u : State) → AnswersParts ok_answer (attempt s' step) u → SoFarSets s (steps ++ step ∷ []) u
  sets-go step u k = record {
    led = attempted-more s steps step ∙ ap (λ (w : State). (attempt w step).after) p.led ∙ sym k.1;
    sets = record {
      covers = λ before f. rw (← append_append) (covers_fold-attempt _ _ _ (Ok tt) _ (p.sets.covers before f) k);
      entails = λ good. entails-call _ (p.sets.entails good) (checks step) (Ok tt) _ k;
      folds = λ good before f.
          rw (← append_append) (sets_fold-attempt _ _ _ (Ok tt) _ (p.sets.entails good) (p.sets.folds good before f) k);
      proves = λ good before f. run_proves-more _ _ _ _ (p.sets.proves good before f)
          (rw p.led (attempt_proves _ _ _ (p.sets.entails good) (p.sets.folds good before f) k.0));
      refutes = λ good before f. run_refutes-more _ _ _ (p.sets.refutes good before f)
          (attempt_refutes _ _ _ (p.sets.entails good) (p.sets.covers before f) k.0);
    };
  }

  -- no more steps are accepted, and this follows for the sets from what was done last
  ends : (r : Answer) (u : State) → ((ts : List Step) → IsCovered ts s' → UnlessFailed r (IsCovered ts u)) →
      (EntailsRedundant s' → UnlessFailed r (EntailsRedundant u)) → (EntailsRedundant s' → (ts : List Step) → IsFold ts s' → UnlessFailed r (IsFold ts u))
      → AnswerSets s steps r u
  ends r u covers entails folds = grind arith

  -- nothing more was attempted
  pub sets-stand : (r : Answer) → AnswerSets s steps r s'
  sets-stand r = ends r s' (λ ts. unless-always r) (unless-always r) (λ good ts. unless-always r)

  -- no step was read; counting one changes no set
  pub sets-counted : (r : Answer) (u : State) → u ≡ count_step s' → AnswerSets s steps r u
  sets-counted r u counted = rw counted (ends r (count_step s') (λ ts. unless-always r) (unless-always r)
      (λ good ts f. unless-always r (λ a. sat-count_step s' a ∙ f a)))

  -- the step that was read is rejected
  pub sets-refused : (step : Step) (e : CheckerError) (u : State) → AnswersParts (err_answer e) (attempt s' step) u → AnswerSets s steps (Err e) u
  sets-refused step e u h = ends (Err e) u (λ ts f. unless-bind (Err e) _ (covers_fold-attempt _ _ _ (Err e) _ f) h)
      (λ good. unless-bind (Err e) _ (entails-call _ good (checks step) (Err e) _) h)
      (λ good ts f. unless-bind (Err e) _ (sets_fold-attempt _ _ _ (Err e) _ good f) h)

  -- `End` was accepted, now or before
  pub sets-close : (r : Answer) (u : State) → AnswersParts r (closing_conflict s') u → AnswerSets s steps r u
  sets-close r u h = ends r u (λ ts f. unless-bind r _ (covers_fold-closing _ _ r _ f) h)
      (λ good. unless-bind r _ (entails-call _ good closes r _) h) (λ good ts f. unless-bind r _ (sets_fold-closing _ _ r _ good f) h)
