use Rattle.drat_check.proofs.WrittenCores.{flushed}
use Rattle.drat_check.proofs.outputs.write_clauses.Goals as goal

pub returns-in-Ok-clause-beginning : goal.returns-in-Ok-clause-beginning
returns-in-Ok-clause-beginning g c = flushed c.flush.result _ _ _ _ c.in-Ok.ensures.whole c.flush.ensures.bytes
