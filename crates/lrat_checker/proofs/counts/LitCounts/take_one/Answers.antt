use Rattle.std.proofs.Common.{arith}
use Rattle.lrat_checker.proofs.CountLemmas.{count-parts}
use Rattle.lrat_checker.proofs.counts.LitCounts.take_one.Goals as goal

pub returns-then-not-take_near-clause-counts : goal.returns-then-not-take_near-clause-counts
returns-then-not-take_near-clause-counts c l = grind (arith, count-parts, c.take_near.ensures.counts l, c.take_far.ensures l)

pub returns-else-not-take_near-clause-counts : goal.returns-else-not-take_near-clause-counts
returns-else-not-take_near-clause-counts c l = grind (arith, count-parts, c.take_near.ensures.counts l)
