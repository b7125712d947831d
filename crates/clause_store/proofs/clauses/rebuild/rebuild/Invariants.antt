use Rattle.std.proofs.Common.{◌≡◌, ℕ, take}
use Rattle.std.specs.List.{filter}
use Rattle.clause_store.specs.Buckets.{clauses_at, has_hash}
use Rattle.clause_store.specs.StateOf.{hash_of}
use Rattle.clause_store.proofs.clauses.rebuild.rebuild.Given as goal

abbrev pub invariant-loop-clause : goal.invariant-loop-clause
invariant-loop-clause l = (k : ℕ) → clauses_at l.buckets k ≡ filter (has_hash (hash_of l.hasher) l.buffer k) (take l.clause-index l.all)
