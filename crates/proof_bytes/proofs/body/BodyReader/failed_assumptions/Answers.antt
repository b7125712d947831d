use Rattle.proof_bytes.proofs.Leading.{exits_by, leads_nil, reads_on}
use Rattle.proof_bytes.proofs.StepFields.{first_of_two, first_of_two_fails}
use Rattle.proof_bytes.proofs.body.BodyReader.failed_assumptions.Goals as goal

pub returns-in_err-lits : goal.returns-in_err-lits
returns-in_err-lits g c = exits_by _ _ c.from_residual.ensures.1 (first_of_two_fails _ _ (leads_nil _ _)) c.in_err-lits.ensures

pub returns : goal.returns
returns g c = reads_on _ _ _ c.with_hashes.result (first_of_two _ _ _ c.in_ok-lits.ensures) c.with_hashes.ensures
