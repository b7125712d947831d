use Rattle.std.proofs.Common.{◌≡◌, drop, length}
use Rattle.clause_store.specs.Idle.{Lengthens}
use Rattle.clause_store.specs.Rup.{true_lits}
use Rattle.clause_store.specs.Trace.{KeepsStored, looked}
use Rattle.clause_store.specs.Trail.{IsUndoable}
use Rattle.clause_store.proofs.rup.trace.list_units.Given as goal

abbrev pub invariant-loop-lit : goal.invariant-loop-lit
invariant-loop-lit l = record {
  listed : looked l.trace.items l.units (drop l.lit-index l.lits) ≡ looked l.initial.trace.items l.initial.units l.lits;
  kept : KeepsStored l.initial.units l.units;
  true_lits : true_lits l.units ≡ true_lits l.initial.units;
  lengthens : Lengthens l.initial.trace.items l.initial.units (length l.initial.trail.items) l.trace.items l.units (length l.trail.items);
  undoable : IsUndoable l.initial.units l.initial.trail.items l.units l.trail.items;
}
