use Rattle.clause_store.specs.StateOf.{hash_of}
use Rattle.clause_store.specs.View.{stored_list}
use Rattle.clause_store.proofs.StoreLemmas.{are_apart-bucket, count_of-bucket}
use Rattle.clause_store.proofs.clauses.store.copies.Goals as goal

pub copies_in-requires-clause-apart : goal.copies_in-requires-clause-apart
copies_in-requires-clause-apart c =
    let h = c.args.hasher.now in let cs = c.args.clauses.now in
    rw (c.deref.ensures.value, c.clause_hash-hash.ensures) (are_apart-bucket h cs (stored_list cs) c.requires.filed (hash_of h c.args.lits.now))

pub returns : goal.returns
returns c =
    let cs = c.args.clauses.now in let ls = c.args.lits.now in let r = c.args.redundant in
    cc (count_of-bucket c.args.hasher.now cs (stored_list cs) c.requires.filed r ls)
