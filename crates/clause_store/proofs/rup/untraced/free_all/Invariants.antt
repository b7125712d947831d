use Rattle.std.proofs.Common.{◌≡◌, drop, length}
use Rattle.clause_store.specs.Trail.{freed, undone}
use Rattle.clause_store.proofs.rup.untraced.free_all.Given as goal

abbrev pub invariant-loop-lit : goal.invariant-loop-lit
invariant-loop-lit l = record {
  same : undone l.units (freed (drop l.lit-index l.lits)) ≡ undone l.initial.units (freed l.lits);
  known : length l.units ≡ length l.initial.units;
}
