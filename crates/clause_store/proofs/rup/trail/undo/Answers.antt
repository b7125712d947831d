use Rattle.std.proofs.Common.{refl}
use Rattle.clause_store.proofs.AssumeLemmas.{trail-rest, undone-step}
use Rattle.clause_store.proofs.rup.trail.undo.Goals as goal

pub loop-old-preserved : goal.loop-old-preserved
loop-old-preserved c = rw c.put_back.ensures (record {
  same = undone-step _ _ _ _ _ _ c.in-Some.ensures.items refl c.loop-old.invariant.same;
  known = trail-rest _ _ _ _ _ _ c.in-Some.ensures.items c.loop-old.invariant.known;
})
