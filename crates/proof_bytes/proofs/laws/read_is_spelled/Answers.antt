use Rattle.proof_bytes.proofs.StepLaws.{step_exact}
use Rattle.proof_bytes.proofs.laws.read_is_spelled.Goals as goal

pub returns : goal.returns
returns c = λ format s bytes rest fits e. let took = step_exact format s bytes rest fits e in (took.spelled, took.fits)
