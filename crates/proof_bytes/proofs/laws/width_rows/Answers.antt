use Rattle.proof_bytes.proofs.Rows.{width_rows}
use Rattle.proof_bytes.proofs.laws.width_rows.Goals as goal

pub returns : goal.returns
returns c = width_rows
