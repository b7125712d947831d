use Rattle.std.proofs.Common.{arith}
use Rattle.lrat_checker.proofs.CountLemmas.{count-parts}
use Rattle.lrat_checker.proofs.counts.LitCounts.get.Goals as goal

pub returns : goal.returns
returns c = grind (arith, count-parts)
