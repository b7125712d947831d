use Rattle.std.proofs.Common.{◌≡◌, None, drop}
use Rattle.std.specs.Int.Bits.{bit_xor}
use Rattle.checker_rules.specs.State.{xor_hash}
use Rattle.clause_store.proofs.hash.unnamed_hash.Given as goal

abbrev pub invariant-loop-lit : goal.invariant-loop-lit
invariant-loop-lit l = bit_xor l.hash (xor_hash (λ v. None) (drop l.lit-index l.lits)) ≡ xor_hash (λ v. None) l.lits
