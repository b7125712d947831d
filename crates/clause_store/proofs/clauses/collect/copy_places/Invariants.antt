use Rattle.std.proofs.Common.{◌≡◌, ◌+◌, ◌++◌, length, map, take}
use Rattle.checker_rules.specs.LiveLiterals.{live_literals}
use Rattle.clause_store.specs.Crowds.{standing}
use Rattle.clause_store.specs.Moved.{all_in_buffer}
use Rattle.clause_store.specs.View.{stored_of}
use Rattle.clause_store.proofs.clauses.collect.copy_places.Given as goal

abbrev pub invariant-loop-place : goal.invariant-loop-place
invariant-loop-place l = record {
  copied : l.new.items ≡ l.initial.new.items ++ all_in_buffer l.buffer (standing (take l.place-index l.places));
  used : length l.new.items ≡ length l.initial.new.items + live_literals (map (stored_of l.buffer) (standing (take l.place-index l.places)));
}
