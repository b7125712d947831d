use Rattle.std.proofs.Common.{arith, refl, ap, ◌∙◌, ◌+◌, length, take}
use Rattle.proof_bytes.proofs.ListFronts.{two_more, none_read, one_read}
use Rattle.proof_bytes.proofs.ahead.lits_ahead.Goals as goal

pub items-init : goal.items-init
items-init c = record {
  count = c.args.into.now.ok.0 ∙ ap length c.requires;
  room = refl;
  within = omega arith;
  read = rw c.requires (none_read _);
}

pub items-preserved : goal.items-preserved
items-preserved c = record {
  count = c.push_reserved.ensures.len ∙ ap (λ n. n + 1) c.items.invariant.count;
  room = c.push_reserved.ensures.capacity ∙ c.items.invariant.room;
  within = omega (arith, c.in-Some.ensures.within, c.in-Some.len-is);
  read = rw (c.push_reserved.ensures.items, two_more c.args.bytes.now c.items.at _ (omega arith) c.in-Some.ensures.within)
      (one_read _ (take c.items.at c.args.bytes.now) c.items.into.items c.items.invariant.read _ _ c.in-Some.ensures.read);
}
