use Rattle.std.proofs.Common.{refl, arith}
use Rattle.clause_store.specs.StateOf.{applied_of}
use Rattle.clause_store.proofs.HashLemmas.{names_of-empty, xor_hash-all, xor_hash-from, xor_hash-unnamed}
use Rattle.clause_store.proofs.hash.ClauseHasher.full_hash.Goals as goal

pub returns-then-is_empty : goal.returns-then-is_empty
returns-then-is_empty c = cc (c.unnamed_hash.ensures, xor_hash-unnamed (applied_of c.args.self.now) c.args.lits.now (names_of-empty c.args.self.now.solver_names (c.if-is_empty.ensures.0 refl)))

pub loop-lit-preserved : goal.loop-lit-preserved
loop-lit-preserved c =
    let names = applied_of c.args.self.now in let i = c.loop-lit.lit-index in
    cc (c.named_lit_hash-hash.ensures, xor_hash-from names c.args.lits.now i c.lit-item.result c.loop-lit.hash (omega arith) c.lit-item.is, c.loop-lit.invariant)

pub returns : goal.returns
returns c = xor_hash-all _ _ _ _ (omega arith) c.loop-lit.invariant
