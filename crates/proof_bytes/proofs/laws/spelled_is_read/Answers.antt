use Rattle.proof_bytes.proofs.StepLaws.{step_again}
use Rattle.proof_bytes.proofs.laws.spelled_is_read.Goals as goal

pub returns : goal.returns
returns c = step_again
