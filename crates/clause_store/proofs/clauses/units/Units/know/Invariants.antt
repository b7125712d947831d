use Rattle.std.proofs.Common.{◌≡◌, ◌++◌, None}
use Rattle.std.specs.Prelude.{replicate}
use Rattle.clause_store.proofs.clauses.units.Units.know.Given as goal

abbrev pub invariant-vars : goal.invariant-vars
invariant-vars l = l.self ≡ l.initial.self ++ replicate l.counter None
