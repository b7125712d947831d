use Rattle.std.proofs.Common.{arith, refl}
use Rattle.proof_bytes.proofs.Leading.{exits_by}
use Rattle.proof_bytes.proofs.FieldLemmas.{made_fails, made_read, justified_last}
use Rattle.proof_bytes.proofs.fields.Fields.justification.Goals as goal

pub returns-in_err-n : goal.returns-in_err-n
returns-in_err-n g c = exits_by _ _ c.from_residual.ensures.1 (made_fails _ _) c.in_err-n.ensures.read

pub returns-in-0 : goal.returns-in-0
returns-in-0 g c = made_read _ _ _ (rw c.in-0.is refl) c.in_ok-n.ensures.read

pub returns-in-1 : goal.returns-in-1
returns-in-1 g c = made_read _ _ _ (rw c.in-1.is refl) c.in_ok-n.ensures.read

pub returns-in_default : goal.returns-in_default
returns-in_default g c = made_read _ _ _ (justified_last _ (λ e. omega arith) (λ e. omega arith)) c.in_ok-n.ensures.read
