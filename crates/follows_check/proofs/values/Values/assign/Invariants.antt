use Rattle.std.proofs.Common.{◌≡◌, ℕ, take}
use Rattle.follows_check.specs.Minimal.{assigned, truth_in}
use Rattle.follows_check.proofs.values.Values.assign.Given as goal

abbrev pub invariant-loop-lit : goal.invariant-loop-lit
invariant-loop-lit l = (x : ℕ) → truth_in l.self x ≡ assigned (take l.lit-index l.model) (truth_in l.fn.self) x
