use Rattle.std.proofs.Common.{◌≡◌, take}
use Rattle.clause_store.proofs.clauses.counts.copy_wide.Given as goal

abbrev pub invariant-loop-count : goal.invariant-loop-count
invariant-loop-count l = l.wide.items ≡ take l.count-index l.counts.items
