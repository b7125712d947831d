use Rattle.std.proofs.Common.{◌≡◌, ◌^◌, true, take}
use Rattle.std.specs.Prelude.{nat_lt}
use Rattle.std.specs.List.{list_all}
use Rattle.proof_bytes.proofs.fit.all_fit.Given as goal

abbrev pub invariant-items : goal.invariant-items
invariant-items l = list_all (λ n. nat_lt n (2 ^ l.width)) (take l.hash-index l.hashes) ≡ true
