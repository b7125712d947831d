use Rattle.checker_steps.proofs.Common.{common_steps}
use Rattle.std.proofs.Common.{arith}
use Rattle.checker_steps.proofs.steps.model.judge_marking.Goals as goal

pub returns-then-not-meets_clauses-clause-cause : goal.returns-then-not-meets_clauses-clause-cause
returns-then-not-meets_clauses-clause-cause c h = grind (arith, common_steps)

pub returns-clause-cause : goal.returns-clause-cause
returns-clause-cause c h = grind (arith, common_steps)
