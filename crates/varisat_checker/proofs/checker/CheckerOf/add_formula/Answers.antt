use Rattle.varisat_checker.proofs.Common.{common_steps}
use Rattle.std.proofs.Common.{Ok, arith}
use Rattle.std.proofs.lemmas.Result.{err_from_is_err_and}
use Rattle.varisat_checker.specs.Shown.{state}
use Rattle.varisat_checker.proofs.CertifiedLemmas.{certifies-adds}
use Rattle.varisat_checker.proofs.DeliveredAdds.{covers-added, formula-all, formula-more, formula-none, formula-stops, of-all, of-stops, sets-added}
use Rattle.varisat_checker.proofs.checker.CheckerOf.add_formula.Goals as goal

pub clauses-init : goal.clauses-init
unfolding state
clauses-init g c = formula-none c.if-self.false c.into_iter-clause-iterator.ensures.into_iter_gives

pub clauses-preserved : goal.clauses-preserved
clauses-preserved g c = grind (arith, common_steps, formula-more)

pub returns-in_err-add_clause-clause-steps : goal.returns-in_err-add_clause-clause-steps
returns-in_err-add_clause-clause-steps g c = λ running.
    let q = err_from_is_err_and c.from_residual.result c.from_residual.ensures.1 in
    let p = c.clauses.invariant in
    rw (q.1, q.2) (of-stops p c.in-Some.ensures.steps _ _ (rw c.in_err-add_clause.was at (c.add_clause.ensures.step p.so_far.running)))

pub returns-in_err-add_clause-clause-headline : goal.returns-in_err-add_clause-clause-headline
unfolding state
returns-in_err-add_clause-clause-headline g c = λ running before fold.
    sets-added _ before _ _ _ (c.args.self.now.entails running) fold (returns-in_err-add_clause-clause-steps g c running)

pub returns-in_err-add_clause-clause-covers : goal.returns-in_err-add_clause-clause-covers
returns-in_err-add_clause-clause-covers g c = λ running before covered.
    covers-added _ before _ _ _ covered (returns-in_err-add_clause-clause-steps g c running)

pub returns-clause-steps : goal.returns-clause-steps
returns-clause-steps g c = λ running. of-all c.clauses.invariant c.in-None.ensures.steps.0

pub returns-clause-headline : goal.returns-clause-headline
unfolding state
returns-clause-headline g c = λ running before fold.
    sets-added _ before _ (Ok tt) _ (c.args.self.now.entails running) fold (returns-clause-steps g c running)

pub returns-clause-covers : goal.returns-clause-covers
returns-clause-covers g c = λ running before covered.
    covers-added _ before _ (Ok tt) _ covered (returns-clause-steps g c running)

pub returns-in_err-add_clause-clause-certified : goal.returns-in_err-add_clause-clause-certified
unfolding state
returns-in_err-add_clause-clause-certified g c = λ running.
    certifies-adds _ _ _ _ (c.args.self.now.kept running).form (returns-in_err-add_clause-clause-steps g c running)

pub returns-clause-certified : goal.returns-clause-certified
unfolding state
returns-clause-certified g c = λ running.
    certifies-adds (Ok tt) _ _ _ (c.args.self.now.kept running).form (returns-clause-steps g c running)

pub returns-in_err-add_clause-clause-delivered : goal.returns-in_err-add_clause-clause-delivered
returns-in_err-add_clause-clause-delivered g c = λ running.
    let q = err_from_is_err_and c.from_residual.result c.from_residual.ensures.1 in
    let p = c.clauses.invariant in
    rw (q.1, q.2)
    (formula-stops p c.in-Some.ensures.steps _ _ _ (rw c.in_err-add_clause.was at (c.add_clause.ensures.step p.so_far.running))
    (rw c.in_err-add_clause.was at (c.add_clause.ensures.delivered p.so_far.running)))

pub returns-clause-delivered : goal.returns-clause-delivered
returns-clause-delivered g c = λ running. formula-all c.clauses.invariant c.in-None.ensures.steps.0
