use Rattle.std.proofs.Common.{arith, refl, ap, ◌∙◌, ◌+◌, length, take}
use Rattle.proof_bytes.proofs.ListFronts.{rest_more, rest_within, none_read, one_read}
use Rattle.proof_bytes.proofs.ahead.hashes_ahead.Goals as goal

pub hashes-init : goal.hashes-init
hashes-init c = record {
  count = c.args.into.now.ok.0 ∙ ap length c.requires.empty;
  room = refl;
  within = omega arith;
  read = rw c.requires.empty (none_read _);
}

pub hashes-preserved : goal.hashes-preserved
hashes-preserved c = record {
  count = c.push_reserved.ensures.len ∙ ap (λ n. n + 1) c.hashes.invariant.count;
  room = c.push_reserved.ensures.capacity ∙ c.hashes.invariant.room;
  within = rest_within c.args.bytes.now c.hashes.at _ c.hashes.invariant.within c.in-Some.ensures.within;
  read = rw (c.push_reserved.ensures.items, rest_more c.args.bytes.now c.hashes.at _)
      (one_read _ (take c.hashes.at c.args.bytes.now) c.hashes.into.items c.hashes.invariant.read _ _ c.in-Some.ensures.read);
}
