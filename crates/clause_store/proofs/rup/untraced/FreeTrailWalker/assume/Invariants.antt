use Rattle.std.proofs.Common.{◌≡◌, ℕ, false, take}
use Rattle.checker_rules.specs.State.{some_true_unit, start_set}
use Rattle.clause_store.specs.Rup.{true_lits}
use Rattle.clause_store.specs.StateOf.{stored_units}
use Rattle.clause_store.specs.Trail.{IsUndoable, freed}
use Rattle.clause_store.proofs.rup.untraced.FreeTrailWalker.assume.Given as goal

abbrev pub invariant-loop-lit : goal.invariant-loop-lit
invariant-loop-lit l = record {
  same : (m : ℕ) → true_lits l.units m ≡ start_set (stored_units l.initial.units) (take l.lit-index l.lits) m;
  none_true : some_true_unit (stored_units l.initial.units) (take l.lit-index l.lits) ≡ false;
  undoable : IsUndoable l.initial.units (freed l.initial.self.items) l.units (freed l.self.items);
}
