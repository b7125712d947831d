use Rattle.proof_bytes.proofs.Leading.{exits_by, leads_nil}
use Rattle.proof_bytes.proofs.StepFields.{only_fails, only_read}
use Rattle.proof_bytes.proofs.body.BodyReader.with_hashes.Goals as goal

pub returns-in_err-hashes : goal.returns-in_err-hashes
returns-in_err-hashes g c = exits_by _ _ c.from_residual.ensures.1 (only_fails _ (leads_nil _ _)) c.in_err-hashes.ensures

pub returns : goal.returns
returns g c = only_read _ _ c.in_ok-hashes.ensures
