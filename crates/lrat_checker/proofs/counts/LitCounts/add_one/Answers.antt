use Rattle.std.proofs.Common.{arith}
use Rattle.lrat_checker.proofs.CountLemmas.{count-parts}
use Rattle.lrat_checker.proofs.counts.LitCounts.add_one.Goals as goal

pub returns-in_err-add_near-clause-memory : goal.returns-in_err-add_near-clause-memory
returns-in_err-add_near-clause-memory c w v = grind (arith, count-parts, c.in_err-add_near.ensures.memory)

pub returns-in_ok-add_near-clause-counts : goal.returns-in_ok-add_near-clause-counts
returns-in_ok-add_near-clause-counts c l = grind (arith, count-parts, c.in_ok-add_near.ensures.counts l)

pub returns-in_ok-add_far-clause-counts : goal.returns-in_ok-add_far-clause-counts
returns-in_ok-add_far-clause-counts c l = grind (arith, count-parts, c.in_ok-add_far.ensures l)
