use Rattle.drat_check.proofs.WrittenLines.{began_before, refused}
use Rattle.drat_check.proofs.run.run_proof.Goals as goal

pub returns-in-Err-clause-outputs : goal.returns-in-Err-clause-outputs
returns-in-Err-clause-outputs g c =
    refused c.args.formula.now g.L.Write.contents g.C.Write.contents c.args.outputs.now c.in-Err.fault

pub returns-in-Err-elaborate-clause-outputs : goal.returns-in-Err-elaborate-clause-outputs
returns-in-Err-elaborate-clause-outputs g c =
    refused c.args.formula.now g.L.Write.contents g.C.Write.contents c.args.outputs.now c.in-Err-elaborate.fault

pub returns-in-Err-write_proof-clause-outputs : goal.returns-in-Err-write_proof-clause-outputs
returns-in-Err-write_proof-clause-outputs g c =
    let r = c.in-Err-write_proof.ensures in
    began_before c.args.formula.now g.L.Write.contents g.C.Write.contents c.args.outputs.now c.write_proof.new.outputs c.in-Err-write_proof.fault r.fault r.beginning r.core
