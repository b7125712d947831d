use Rattle.clause_store.proofs.IdleLemmas.{first-ended, first-walked, listed-ended, listed-walked}
use Rattle.clause_store.proofs.AssumeLemmas.{is_undoable_then}
use Rattle.clause_store.proofs.rup.walk.walk_buckets.Goals as goal

pub returns-in-Some-clause-ok : goal.returns-in-Some-clause-ok
returns-in-Some-clause-ok g c =
    first-ended _ c.args.buckets.now _ _ _ _ _ _ _
    c.loop-hash-test.true c.in-Some.is c.in_ok-answer.ensures.ok c.loop-hash.invariant.same

pub returns-in-Some-clause-listed : goal.returns-in-Some-clause-listed
returns-in-Some-clause-listed g c = λ passed.
    listed-ended g.W.Walker.after _ c.args.buckets.now _ _ _ c.visit_named.new.units
    _ _ _ c.loop-hash-test.true
    (c.in_ok-answer.ensures.listed.passed (cc (c.in-Some.is))) c.loop-hash.invariant.listed

pub loop-hash-preserved : goal.loop-hash-preserved
loop-hash-preserved g c = record {
  same = first-walked _ c.args.buckets.now _ _ _ _ _ _
      c.loop-hash-test.true c.in_default.is c.in_ok-answer.ensures.ok c.loop-hash.invariant.same;
  listed = listed-walked g.W.Walker.after _ c.args.buckets.now _ _ _
      _ _ _ _ c.loop-hash-test.true
      (c.in_ok-answer.ensures.listed.goes_on c.in_default.is) c.loop-hash.invariant.listed;
  idle = c.in_ok-answer.ensures.idle c.in_default.is;
  undoable = is_undoable_then _ _ _ _ _ _ c.loop-hash.invariant.undoable c.visit_named.ensures.undoable;
}
