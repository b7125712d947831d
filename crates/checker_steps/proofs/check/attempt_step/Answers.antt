use Rattle.checker_steps.proofs.Common.{common_steps}
use Rattle.std.proofs.Common.{arith}
use Rattle.checker_steps.proofs.CallAnswers.{error-answers, error-delivered, error-unless}
use Rattle.checker_steps.proofs.check.attempt_step.Goals as goal

pub returns-in-Err : goal.returns-in-Err
returns-in-Err g c = grind (arith, common_steps, error-answers, error-unless, error-delivered)
