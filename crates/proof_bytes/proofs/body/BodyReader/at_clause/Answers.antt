use Rattle.proof_bytes.proofs.Leading.{exits_by, leads_nil, leads_on, reads_on}
use Rattle.proof_bytes.proofs.StepFields.{first_of_two, first_of_three, first_of_three_fails, first_of_two_fails}
use Rattle.proof_bytes.proofs.body.BodyReader.at_clause.Goals as goal

pub returns-in_err-redundant : goal.returns-in_err-redundant
returns-in_err-redundant g c = exits_by _ _ c.from_residual.ensures.1 (first_of_three_fails _ _ _ (leads_nil _ _)) c.in_err-redundant.ensures

pub returns-in_err-lits : goal.returns-in_err-lits
returns-in_err-lits g c = exits_by _ _ c.from_residual-in_err-lits.ensures.1 (first_of_two_fails _ _ (first_of_three _ _ _ _ c.in_ok-redundant.ensures)) c.in_err-lits.ensures

pub returns : goal.returns
returns g c = reads_on _ _ _ c.with_hashes.result (leads_on (first_of_three _ _ _ _ c.in_ok-redundant.ensures) (first_of_two _ _ _ c.in_ok-lits.ensures)) c.with_hashes.ensures
