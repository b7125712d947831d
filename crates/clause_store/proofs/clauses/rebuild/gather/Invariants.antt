use Rattle.std.proofs.Common.{◌≡◌, ◌++◌}
use Rattle.std.specs.List.{flat_map}
use Rattle.std.specs.HashMap.{values}
use Rattle.clause_store.specs.Buckets.{clauses_of}
use Rattle.clause_store.proofs.clauses.rebuild.gather.Given as goal

abbrev pub invariant-loop-bucket : goal.invariant-loop-bucket
invariant-loop-bucket l = l.all.items ++ flat_map clauses_of l.bucket-iterator ≡ flat_map clauses_of (values l.clauses.buckets)
