use Rattle.clause_store.proofs.HashLemmas.{named_hash-None}
use Rattle.clause_store.proofs.hash.unnamed_lit_hash.Goals as goal

pub returns : goal.returns
returns c = cc (c.lit_code_hash.ensures, c.code.ensures.value, named_hash-None c.args.lit)
