use Rattle.clause_store.specs.StateOf.{applied_of}
use Rattle.clause_store.proofs.HashLemmas.{clause_hash-is}
use Rattle.clause_store.proofs.hash.ClauseHasher.clause_hash.Goals as goal

pub returns : goal.returns
returns c =
    let h = c.args.self.now in
    cc (c.full_hash.ensures, clause_hash-is (applied_of h) h.hash_bits c.args.lits.now)
