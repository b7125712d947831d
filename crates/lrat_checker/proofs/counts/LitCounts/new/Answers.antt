use Rattle.lrat_checker.proofs.CountLemmas.{count-none}
use Rattle.lrat_checker.proofs.counts.LitCounts.new.Goals as goal

pub returns-clause-counts : goal.returns-clause-counts
returns-clause-counts c = count-none c.new.result.items c.new-2.result c.new.ensures.items c.new-2.ensures.empty
