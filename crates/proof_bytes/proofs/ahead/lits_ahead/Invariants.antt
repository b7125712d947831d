use Rattle.std.proofs.Common.{◌≡◌, ◌*◌, ◌^◌, ◌≤◌, take, vec_len}
use Rattle.std.specs.Vec.{vec_capacity}
use Rattle.proof_bytes.specs.Fields.{below_at}
use Rattle.proof_bytes.specs.Ahead.{ReadAs}
use Rattle.proof_bytes.proofs.ahead.lits_ahead.Given as goal

abbrev pub invariant-items : goal.invariant-items
invariant-items l = record {
  count : vec_len l.into ≡ l.counter;
  room : vec_capacity l.into ≡ vec_capacity l.fn.into;
  within : l.at ≤ 2 * l.counter;
  read : ReadAs (below_at (2 ^ 29)) (take l.at l.bytes) l.into.items;
}
