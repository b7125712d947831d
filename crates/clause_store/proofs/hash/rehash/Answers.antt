use Rattle.std.proofs.Common.{refl}
use Rattle.clause_store.proofs.HashLemmas.{is_store-renamed}
use Rattle.clause_store.proofs.hash.rehash.Goals as goal

pub returns-then-hasher-bits-clause-store : goal.returns-then-hasher-bits-clause-store
returns-then-hasher-bits-clause-store c = is_store-renamed c.args.hasher.now _ c.args.clauses.now refl (c.in_ok-renamed.ensures.changed c.if-not-renamed.true) c.requires.store
