use Rattle.std.proofs.Common.{◌≡◌, ℕ, ◌+◌, ◌-◌, ◌*◌, ◌^◌, ◌<◌, List, ◌++◌, take}
use Rattle.proof_bytes.specs.Reading.{number_at, more_at}
use Rattle.proof_bytes.proofs.ahead.number_ahead.Given as goal

abbrev pub invariant-groups : goal.invariant-groups
invariant-groups l = record {
  weight : l.weight ≡ 2 ^ (7 * l.before + 7);
  small : l.value < l.weight;
  read : (more : List ℕ) → number_at (take (l.before + 1) l.bytes ++ more) ≡ more_at (8 - l.before) l.value l.weight more;
}
