use Rattle.std.proofs.Common.{rules}
use Rattle.clause_store.proofs.BucketLemmas.{count_limit-some}
use Rattle.clause_store.proofs.clauses.buckets.raise_clause.Goals as goal

pub returns-in-None-clause-room : goal.returns-in-None-clause-room
returns-in-None-clause-room c = search (rules, count_limit-some)
