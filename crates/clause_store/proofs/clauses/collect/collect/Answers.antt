use Rattle.std.proofs.Common.{◌∙◌, arith}
use Rattle.clause_store.proofs.clauses.collect.collect.Goals as goal

pub copy_lits-requires : goal.copy_lits-requires
copy_lits-requires c = (c.args.hasher.now, c.requires)

pub move_buckets-requires : goal.move_buckets-requires
move_buckets-requires c = omega (arith, c.in_ok-buffer.ensures.count)

pub returns-clause-filed : goal.returns-clause-filed
returns-clause-filed c =
    let b = c.args.clauses.now.literal_buffer.items in let moved = c.move_buckets.ensures in
    record {
      some_bits = c.requires.some_bits;
      bits = c.requires.bits;
      within = rw c.in_ok-buffer.ensures.copied (moved.within b c.requires.within);
      bucketed = λ k. rw c.in_ok-buffer.ensures.copied (moved.same b k c.requires.within ∙ c.requires.bucketed k);
      rise = c.requires.rise;
      apart = c.requires.apart;
      whole = c.requires.whole;
      used = omega (arith, c.in_ok-buffer.ensures.used);
    }
