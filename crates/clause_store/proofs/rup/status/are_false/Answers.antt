use Rattle.std.proofs.Common.{arith}
use Rattle.clause_store.proofs.StatusLemmas.{below_bound}
use Rattle.clause_store.proofs.rup.status.are_false.Goals as goal

pub is_false_by-requires-clause-known : goal.is_false_by-requires-clause-known
is_false_by-requires-clause-known c = let b = below_bound _ _ _ c.loop-lit-test.true c.lit-item.is in omega arith
