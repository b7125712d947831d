use Rattle.std.proofs.Common.{◌≡◌, ◌++◌, take}
use Rattle.clause_store.specs.Crowds.{standing}
use Rattle.clause_store.proofs.clauses.rebuild.append_standing.Given as goal

abbrev pub invariant-loop-place : goal.invariant-loop-place
invariant-loop-place l = l.all.items ≡ l.initial.all.items ++ standing (take l.place-index l.places)
