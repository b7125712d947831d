use Rattle.proof_bytes.proofs.Leading.{exits_by, leads_nil, leads_on}
use Rattle.proof_bytes.proofs.StepFields.{only_fails, only_read, first_of_two, first_of_two_fails}
use Rattle.proof_bytes.proofs.body.BodyReader.change_sampling_mode.Goals as goal

pub returns-in_err-var : goal.returns-in_err-var
returns-in_err-var g c = exits_by _ _ c.from_residual.ensures.1 (first_of_two_fails _ _ (leads_nil _ _)) c.in_err-var.ensures

pub returns-in_err-sample : goal.returns-in_err-sample
returns-in_err-sample g c = exits_by _ _ c.from_residual-in_err-sample.ensures.1 (only_fails _ (first_of_two _ _ _ c.in_ok-var.ensures)) c.in_err-sample.ensures

pub returns : goal.returns
returns g c = leads_on (first_of_two _ _ _ c.in_ok-var.ensures) (only_read _ _ c.in_ok-sample.ensures)
