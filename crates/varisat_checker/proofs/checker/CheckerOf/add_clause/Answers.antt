use Rattle.std.proofs.Common.{refl}
use Rattle.varisat_checker.proofs.Common.{adds, covers_fold-step, sets_fold-step}
use Rattle.varisat_checker.specs.Shown.{state}
use Rattle.varisat_checker.proofs.CertifiedLemmas.{certifies-call}
use Rattle.varisat_checker.proofs.FailingLemmas.{entails-on, went-on}
use Rattle.varisat_checker.proofs.checker.CheckerOf.add_clause.Goals as goal

pub returns-else-fails-clause-headline : goal.returns-else-fails-clause-headline
unfolding state
returns-else-fails-clause-headline g c = λ running before fold.
    sets_fold-step _ _ before _ _ (c.args.self.now.entails running) fold (went-on _ _ _ c.fails.ensures c.if-fails.false c.add_clause-answer.ensures.step)

pub returns-else-fails-clause-covers : goal.returns-else-fails-clause-covers
unfolding state
returns-else-fails-clause-covers g c = λ running before covered.
    covers_fold-step _ _ before _ _ covered (went-on _ _ _ c.fails.ensures c.if-fails.false c.add_clause-answer.ensures.step)

pub returns-else-fails-clause-certified : goal.returns-else-fails-clause-certified
unfolding state
returns-else-fails-clause-certified g c = λ running.
    certifies-call _ _ _ _ (adds c.args.clause.now) (c.args.self.now.kept running).form c.add_clause-answer.ensures.step (λ on. refl)

pub invariant_of-self-else-fails-clause-entails : goal.invariant_of-self-else-fails-clause-entails
invariant_of-self-else-fails-clause-entails g c = λ running.
    entails-on _ (c.args.self.now.entails c.if-self.false) (adds c.args.clause.now) _ _ c.fails.ensures c.if-fails.false c.add_clause-answer.ensures.step
