use Rattle.std.proofs.Common.{◌≡◌, ℕ, ◌&&◌, not, take}
use Rattle.sat_rules.specs.Clauses.{var_of}
use Rattle.checker_rules.specs.DeleteVar.{holds_var}
use Rattle.checker_rules.specs.State.{start_set}
use Rattle.clause_store.specs.Rup.{true_lits}
use Rattle.clause_store.specs.StateOf.{stored_units}
use Rattle.clause_store.specs.Trace.{KeepsStored, unlisted_lits}
use Rattle.clause_store.specs.Trail.{IsUndoable}
use Rattle.clause_store.proofs.rup.trail.assume_false.Given as goal

abbrev pub invariant-loop-lit : goal.invariant-loop-lit
invariant-loop-lit l = record {
  same : (m : ℕ) → true_lits l.units m ≡ start_set (stored_units l.initial.units) (take l.lit-index l.lits) m;
  unlisted : (m : ℕ) → unlisted_lits l.units m ≡ (unlisted_lits l.initial.units m && not (holds_var (var_of m) (take l.lit-index l.lits)));
  kept : KeepsStored l.initial.units l.units;
  undoable : IsUndoable l.initial.units l.initial.trail.items l.units l.trail.items;
}
