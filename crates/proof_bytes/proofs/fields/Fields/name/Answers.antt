use Rattle.std.proofs.Common.{arith, refl}
use Rattle.proof_bytes.proofs.Leading.{exits_by}
use Rattle.proof_bytes.proofs.FieldLemmas.{made_fails, made_read, named_some}
use Rattle.proof_bytes.proofs.fields.Fields.name.Goals as goal

pub returns-in_err-n : goal.returns-in_err-n
returns-in_err-n g c = exits_by _ _ c.from_residual.ensures.1 (made_fails _ _) c.in_err-n.ensures.read

pub returns-then-n-eq0 : goal.returns-then-n-eq0
returns-then-n-eq0 g c = made_read _ _ _ (rw c.if-n-eq0.true refl) c.in_ok-n.ensures.read

pub returns : goal.returns
returns g c = made_read _ _ _ (named_some _ _ (λ e. c.if-n-eq0.false e) (omega (arith, c.in_ok-n.ensures.bound)) c.from_index.ensures) c.in_ok-n.ensures.read
