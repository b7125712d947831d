use Rattle.follows_check.proofs.Shown.{begun}
use Rattle.follows_check.proofs.question.write_question.Goals as goal

pub returns-clause-fault : goal.returns-clause-fault
returns-clause-fault g c = begun _ _ c.in-Ok.asked c.in-Ok.ensures.asked _ _ _ c.in-Ok-write_formula.ensures.whole c.flush.ensures.bytes
