use Rattle.std.proofs.Common.{refl}
use Rattle.proof_bytes.proofs.Leading.{exits_by}
use Rattle.proof_bytes.proofs.FieldLemmas.{made_fails, made_read}
use Rattle.proof_bytes.proofs.fields.Fields.flag.Goals as goal

pub returns-in_err-n : goal.returns-in_err-n
returns-in_err-n g c = exits_by _ _ c.from_residual.ensures.1 (made_fails _ _) c.in_err-n.ensures.read

pub returns : goal.returns
returns g c = made_read _ _ _ refl c.in_ok-n.ensures.read
