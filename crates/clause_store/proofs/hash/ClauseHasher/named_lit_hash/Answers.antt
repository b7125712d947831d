use Rattle.clause_store.proofs.HashLemmas.{named_hash-Some}
use Rattle.clause_store.proofs.hash.ClauseHasher.named_lit_hash.Goals as goal

pub returns-in-Some : goal.returns-in-Some
returns-in-Some c =
    let v = c.in-Some.name.index in
    cc (c.lit_hash.ensures, c.lit.ensures, c.is_positive.ensures, named_hash-Some v c.args.lit, c.in-Some.ensures, c.index.ensures.value)

pub returns-in-None : goal.returns-in-None
returns-in-None c =
    cc (c.unnamed_lit_hash.ensures, c.in-None.ensures, c.index.ensures.value)
