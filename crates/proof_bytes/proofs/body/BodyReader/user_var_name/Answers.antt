use Rattle.checker_rules.specs.Step.{user_var_name}
use Rattle.proof_bytes.proofs.Leading.{exits}
use Rattle.proof_bytes.proofs.body.BodyReader.user_var_name.Goals as goal

pub returns-in_err-global : goal.returns-in_err-global
returns-in_err-global g c = exits _ _ c.from_residual.ensures.1 (c.in_err-global.ensures user_var_name)

pub returns : goal.returns
returns g c = c.in_ok-global.ensures user_var_name
