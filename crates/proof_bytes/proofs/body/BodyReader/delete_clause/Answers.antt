use Rattle.proof_bytes.proofs.Leading.{exits_by, leads_nil, reads_on}
use Rattle.proof_bytes.proofs.StepFields.{first_of_two, first_of_two_fails}
use Rattle.proof_bytes.proofs.body.BodyReader.delete_clause.Goals as goal

pub returns-in_err-proof : goal.returns-in_err-proof
returns-in_err-proof g c = exits_by _ _ c.from_residual.ensures.1 (first_of_two_fails _ _ (leads_nil _ _)) c.in_err-proof.ensures

pub returns : goal.returns
returns g c = reads_on _ _ _ c.with_lits.result (first_of_two _ _ _ c.in_ok-proof.ensures) c.with_lits.ensures
