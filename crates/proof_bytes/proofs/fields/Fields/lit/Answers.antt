use Rattle.std.proofs.Common.{ℕ, refl}
use Rattle.proof_bytes.proofs.Leading.{exits_by}
use Rattle.proof_bytes.proofs.FieldLemmas.{below_fails, below_or}
use Rattle.proof_bytes.proofs.fields.Fields.lit.Goals as goal

pub returns-in_err-code : goal.returns-in_err-code
returns-in_err-code g c = exits_by _ _ c.from_residual.ensures.1 (below_fails _) c.in_err-code.ensures

pub returns : goal.returns
returns g c = rw c.ok_or.ensures.value (below_or _ c.in_ok-code.code c.in_ok-code.ensures _ (λ (l : ℕ). l) (λ l. l) refl (λ l. refl) c.from_code.result c.from_code.ensures)
