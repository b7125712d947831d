use Rattle.std.proofs.Common.{◌≡◌, false, map, take}
use Rattle.checker_rules.specs.Store.{is_stored}
use Rattle.clause_store.specs.Crowds.{standing}
use Rattle.clause_store.specs.View.{stored_of}
use Rattle.clause_store.proofs.clauses.places.search.Given as goal

abbrev pub invariant-loop-at : goal.invariant-loop-at
invariant-loop-at l = is_stored l.lits (map (stored_of l.buffer) (standing (take l.at l.places))) ≡ false
