use Rattle.std.proofs.Common.{None, arith}
use Rattle.clause_store.proofs.HashLemmas.{xor_hash-all, xor_hash-from}
use Rattle.clause_store.proofs.hash.unnamed_hash.Goals as goal

pub loop-lit-preserved : goal.loop-lit-preserved
loop-lit-preserved c =
    let i = c.loop-lit.lit-index in
    cc (c.unnamed_lit_hash-hash.ensures, xor_hash-from (λ v. None) c.args.lits.now i c.lit-item.result c.loop-lit.hash (omega arith) c.lit-item.is, c.loop-lit.invariant)

pub returns : goal.returns
returns c = xor_hash-all (λ v. None) _ _ _ (omega arith) c.loop-lit.invariant
