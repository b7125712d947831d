use Rattle.std.proofs.Common.{◌≡◌, length}
use Rattle.clause_store.specs.Trail.{IsTrailFor, undone}
use Rattle.clause_store.proofs.rup.trail.undo.Given as goal

abbrev pub invariant-loop-old : goal.invariant-loop-old
invariant-loop-old l = record {
  same : undone l.units l.trail.items ≡ undone l.initial.units l.initial.trail.items;
  known : IsTrailFor l.units l.trail.items;
}

abbrev pub decreases-loop-old : goal.decreases-loop-old
decreases-loop-old l = length l.trail.items
