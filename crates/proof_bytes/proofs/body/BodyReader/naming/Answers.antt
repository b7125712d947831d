use Rattle.proof_bytes.proofs.Leading.{exits_by, leads_nil, leads_on}
use Rattle.proof_bytes.proofs.StepFields.{only_fails, only_read, first_of_two, first_of_two_fails}
use Rattle.proof_bytes.proofs.body.BodyReader.naming.Goals as goal

pub returns-in_err-global : goal.returns-in_err-global
returns-in_err-global g c = λ make. exits_by _ _ c.from_residual.ensures.1 (first_of_two_fails _ make (leads_nil _ _)) c.in_err-global.ensures

pub returns-in_err-name : goal.returns-in_err-name
returns-in_err-name g c = λ make. exits_by _ _ c.from_residual-in_err-name.ensures.1 (only_fails _ (first_of_two _ _ make c.in_ok-global.ensures)) c.in_err-name.ensures

pub returns : goal.returns
returns g c = λ make. leads_on (first_of_two _ _ make c.in_ok-global.ensures) (only_read _ _ c.in_ok-name.ensures)
