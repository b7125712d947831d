use Rattle.std.proofs.Common.{◌+◌, ◌^◌}
use Rattle.std.proofs.lemmas.Nat.{mul-mod_first}
use Rattle.checker_rules.specs.State.{lit_code_hash}
use Rattle.proof_bytes.proofs.hash.lit_code_hash.Goals as goal

pub returns : goal.returns
unfolding lit_code_hash
returns c = cc (mul-mod_first (c.args.code + 1) 0x9E3779B97F4A7C15 (2 ^ 64))
