use Rattle.std.proofs.Common.{◌≡◌, ◌≤◌, length, take, vec_len}
use Rattle.std.specs.Vec.{vec_capacity}
use Rattle.proof_bytes.specs.Fields.{hash_at}
use Rattle.proof_bytes.specs.Ahead.{ReadAs}
use Rattle.proof_bytes.proofs.ahead.hashes_ahead.Given as goal

abbrev pub invariant-hashes : goal.invariant-hashes
invariant-hashes l = record {
  count : vec_len l.into ≡ l.counter;
  room : vec_capacity l.into ≡ vec_capacity l.fn.into;
  within : l.at ≤ length l.bytes;
  read : ReadAs (hash_at l.format) (take l.at l.bytes) l.into.items;
}
