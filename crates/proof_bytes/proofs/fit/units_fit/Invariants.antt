use Rattle.std.proofs.Common.{◌≡◌, ◌^◌, ℕ, true, take}
use Rattle.std.specs.Prelude.{nat_lt}
use Rattle.std.specs.List.{list_all}
use Rattle.proof_bytes.proofs.fit.units_fit.Given as goal

abbrev pub invariant-items : goal.invariant-items
invariant-items l = list_all (λ (u : ℕ × ℕ). nat_lt u.1 (2 ^ l.width)) (take l.unit-index l.units) ≡ true
