use Rattle.std.proofs.Common.{refl}
use Rattle.varisat_checker.proofs.Common.{closes, fail, covers_fold-closing, sets_fold-closing, context_state}
use Rattle.varisat_checker.specs.Shown.{state}
use Rattle.varisat_checker.proofs.CertifiedLemmas.{certifies-call}
use Rattle.varisat_checker.proofs.FailingLemmas.{entails-on, gave-up, went-on}
use Rattle.varisat_checker.proofs.checker.CheckerOfSelfChecker.self_check_delayed_steps.Goals as goal

pub returns-else-fails-clause-headline : goal.returns-else-fails-clause-headline
unfolding state
returns-else-fails-clause-headline g c = λ running before fold.
    sets_fold-closing _ before _ _ (c.args.self.now.entails running) fold
    (went-on _ _ _ c.fails.ensures c.if-fails.false c.process_unit_conflicts-answer.ensures.answer)

pub returns-else-fails-clause-covers : goal.returns-else-fails-clause-covers
unfolding state
returns-else-fails-clause-covers g c = λ running before covered.
    covers_fold-closing _ before _ _ covered (went-on _ _ _ c.fails.ensures c.if-fails.false c.process_unit_conflicts-answer.ensures.answer)

pub returns-then-fails-clause-certified : goal.returns-then-fails-clause-certified
unfolding state
returns-then-fails-clause-certified g c = λ running.
    certifies-call _ _ _ (fail (context_state c.process_unit_conflicts-answer.new.ctx)) closes
    (c.args.self.now.kept running).form c.process_unit_conflicts-answer.ensures.answer (gave-up _ _ _ c.fails.ensures c.if-fails.true)

pub returns-else-fails-clause-certified : goal.returns-else-fails-clause-certified
unfolding state
returns-else-fails-clause-certified g c = λ running.
    certifies-call _ _ _ _ closes (c.args.self.now.kept running).form c.process_unit_conflicts-answer.ensures.answer (λ on. refl)

pub invariant_of-self-else-fails-clause-entails : goal.invariant_of-self-else-fails-clause-entails
invariant_of-self-else-fails-clause-entails g c = λ running.
    entails-on _ (c.args.self.now.entails c.if-self.false) closes _ _ c.fails.ensures c.if-fails.false c.process_unit_conflicts-answer.ensures.answer
