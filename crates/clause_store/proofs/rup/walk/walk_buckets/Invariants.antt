use Rattle.std.proofs.Common.{◌≡◌, drop, length}
use Rattle.checker_rules.specs.Passes.{walk_buckets}
use Rattle.clause_store.specs.Idle.{AreIdle, IsIdleRun, idle_at}
use Rattle.clause_store.specs.Rup.{named_buckets, true_lits}
use Rattle.clause_store.specs.Trace.{named_clauses}
use Rattle.clause_store.specs.Trail.{IsUndoable}
use Rattle.clause_store.specs.View.{stored_in}
use Rattle.clause_store.proofs.rup.walk.walk_buckets.Given as goal

abbrev pub invariant-loop-hash : goal.invariant-loop-hash
invariant-loop-hash g l = record {
  same : walk_buckets (true_lits l.units) (named_buckets l.buffer l.buckets (drop l.hash-index l.hashes)) ≡ walk_buckets (true_lits l.initial.units) (named_buckets l.buffer l.buckets l.hashes);
  listed : g.W.Walker.after (g.W.Walker.ids l.walker) l.units
      (named_clauses l.buffer l.buckets (drop l.hash-index l.hashes)) ≡
      g.W.Walker.after (g.W.Walker.ids l.initial.walker) l.initial.units (named_clauses l.buffer l.buckets l.hashes);
  idle : AreIdle (idle_at l.idle) (length (g.W.Walker.written l.walker))
      (λ h. IsIdleRun g.W.Walker.after (g.W.Walker.ids l.walker) l.units (stored_in l.buffer l.buckets h));
  undoable : IsUndoable l.initial.units (g.W.Walker.written l.initial.walker) l.units (g.W.Walker.written l.walker);
}
