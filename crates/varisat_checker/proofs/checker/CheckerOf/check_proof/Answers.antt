use Rattle.std.proofs.Common.{refl}
use Rattle.varisat_checker.specs.Shown.{listeners, state}
use Rattle.varisat_checker.proofs.FailingLemmas.{proof-run, gave-up, kept-on}
use Rattle.varisat_checker.proofs.checker.CheckerOf.check_proof.Goals as goal

pub returns-then-fails-clause-run : goal.returns-then-fails-clause-run
unfolding state listeners
returns-then-fails-clause-run g c = λ running.
    proof-run (c.args.self.now.entails running) (gave-up _ _ _ c.fails.ensures c.if-fails.true) c.check_proof-answer.ensures.run

pub returns-else-fails-clause-run : goal.returns-else-fails-clause-run
unfolding state listeners
returns-else-fails-clause-run g c = λ running. proof-run (c.args.self.now.entails running) (λ on. refl) c.check_proof-answer.ensures.run

pub invariant_of-self-else-fails-clause-entails : goal.invariant_of-self-else-fails-clause-entails
invariant_of-self-else-fails-clause-entails g c = λ running.
    kept-on _ c.fails.ensures c.if-fails.false (c.check_proof-answer.ensures.run.answered.entails (c.args.self.now.entails c.if-self.false))
