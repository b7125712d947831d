use Rattle.std.proofs.Common.{◌≡◌, List, ◌++◌, drop, length, map}
use Rattle.checker_rules.specs.Passes.{walk}
use Rattle.checker_rules.specs.State.{Stored}
use Rattle.clause_store.specs.Crowds.{standing}
use Rattle.clause_store.specs.Idle.{Lengthens}
use Rattle.clause_store.specs.Rup.{lits_in, true_lits}
use Rattle.clause_store.specs.Trail.{IsUndoable}
use Rattle.clause_store.specs.View.{stored_of}
use Rattle.clause_store.proofs.rup.walk.visit_places.Given as goal

abbrev pub invariant-loop-place : goal.invariant-loop-place
invariant-loop-place g l = record {
  same : walk (true_lits l.units) (lits_in l.buffer (standing (drop l.place-index l.places))) ≡ walk (true_lits l.initial.units) (lits_in l.buffer (standing l.places));
  listed : (rest : List Stored) →
      g.W.Walker.after (g.W.Walker.ids l.walker) l.units (map (stored_of l.buffer) (standing (drop l.place-index l.places)) ++ rest) ≡
      g.W.Walker.after (g.W.Walker.ids l.initial.walker) l.initial.units (map (stored_of l.buffer) (standing l.places) ++ rest);
  lengthens : Lengthens (g.W.Walker.ids l.initial.walker) l.initial.units (length (g.W.Walker.written l.initial.walker))
      (g.W.Walker.ids l.walker) l.units (length (g.W.Walker.written l.walker));
  undoable : IsUndoable l.initial.units (g.W.Walker.written l.initial.walker) l.units (g.W.Walker.written l.walker);
}
