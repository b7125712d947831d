use Rattle.proof_bytes.proofs.Rows.{step_rows}
use Rattle.proof_bytes.proofs.laws.step_rows.Goals as goal

pub returns : goal.returns
returns c = step_rows
