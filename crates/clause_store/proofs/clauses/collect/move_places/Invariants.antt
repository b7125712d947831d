use Rattle.std.proofs.Common.{◌≡◌, ◌+◌, drop, length, take}
use Rattle.clause_store.specs.Crowds.{standing}
use Rattle.clause_store.specs.Moved.{all_moved_to, all_used}
use Rattle.clause_store.proofs.clauses.collect.move_places.Given as goal

abbrev pub invariant-loop-i : goal.invariant-loop-i
invariant-loop-i l = record {
  moved : standing (take l.i l.places) ≡ all_moved_to l.first (standing (take l.i l.initial.places));
  rest : drop l.i l.places ≡ drop l.i l.initial.places;
  many : length l.places ≡ length l.initial.places;
  end : l.at ≡ l.first + all_used (standing (take l.i l.initial.places));
}
