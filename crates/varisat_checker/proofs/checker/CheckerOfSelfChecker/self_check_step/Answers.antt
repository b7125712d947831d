use Rattle.varisat_checker.proofs.Common.{common_steps, checks, fail, covers_fold-attempt, sets_fold-attempt, context_state}
use Rattle.std.proofs.Common.{refl, arith}
use Rattle.proof_bytes.specs.NextStep.{view}
use Rattle.checker_parts.proofs.Proving.{attempt_proves, attempt_refutes}
use Rattle.varisat_checker.specs.Shown.{state}
use Rattle.varisat_checker.proofs.CertifiedLemmas.{certifies-call}
use Rattle.varisat_checker.proofs.FailingLemmas.{entails-on, gave-up, went-on, where-accepted}
use Rattle.varisat_checker.proofs.checker.CheckerOfSelfChecker.self_check_step.Goals as goal

pub returns-else-fails-clause-headline : goal.returns-else-fails-clause-headline
unfolding state
returns-else-fails-clause-headline g c = λ running before fold.
    sets_fold-attempt _ _ before _ _ (c.args.self.now.entails running) fold (went-on _ _ _ c.fails.ensures c.if-fails.false c.attempt_step-answer.ensures.step)

pub returns-else-fails-clause-covers : goal.returns-else-fails-clause-covers
unfolding state
returns-else-fails-clause-covers g c = λ running before covered.
    covers_fold-attempt _ _ before _ _ covered (went-on _ _ _ c.fails.ensures c.if-fails.false c.attempt_step-answer.ensures.step)

pub returns-then-fails-clause-certified : goal.returns-then-fails-clause-certified
unfolding state
returns-then-fails-clause-certified g c = λ running.
    certifies-call _ _ _ (fail (context_state c.attempt_step-answer.new.ctx)) (checks (view c.args.step))
    (c.args.self.now.kept running).form c.attempt_step-answer.ensures.step (gave-up _ _ _ c.fails.ensures c.if-fails.true)

pub returns-else-fails-clause-certified : goal.returns-else-fails-clause-certified
unfolding state
returns-else-fails-clause-certified g c = λ running.
    certifies-call _ _ _ _ (checks (view c.args.step)) (c.args.self.now.kept running).form c.attempt_step-answer.ensures.step (λ on. refl)

pub returns-else-fails-clause-proves : goal.returns-else-fails-clause-proves
unfolding state
returns-else-fails-clause-proves g c = grind (arith, common_steps, where-accepted, attempt_proves, went-on)

pub returns-else-fails-clause-refutes : goal.returns-else-fails-clause-refutes
unfolding state
returns-else-fails-clause-refutes g c = λ running before covered.
    where-accepted _ _ _ (attempt_refutes _ _ before (c.args.self.now.entails running) covered)
    (went-on _ _ _ c.fails.ensures c.if-fails.false c.attempt_step-answer.ensures.step)

pub invariant_of-self-else-fails-clause-entails : goal.invariant_of-self-else-fails-clause-entails
invariant_of-self-else-fails-clause-entails g c = λ running.
    entails-on _ (c.args.self.now.entails c.if-self.false) (checks (view c.args.step)) _ _ c.fails.ensures c.if-fails.false c.attempt_step-answer.ensures.step
