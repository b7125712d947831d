use Rattle.std.proofs.Common.{◌≡◌, drop}
use Rattle.std.specs.Int.Bits.{bit_xor}
use Rattle.checker_rules.specs.State.{xor_hash}
use Rattle.clause_store.specs.StateOf.{applied_of}
use Rattle.clause_store.proofs.hash.ClauseHasher.full_hash.Given as goal

abbrev pub invariant-loop-lit : goal.invariant-loop-lit
invariant-loop-lit l = bit_xor l.hash (xor_hash (applied_of l.self) (drop l.lit-index l.lits)) ≡ xor_hash (applied_of l.self) l.lits
