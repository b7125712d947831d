use Rattle.std.proofs.Common.{refl}
use Rattle.sat_formula.specs.Vars.{index_of, indexes_of}
use Rattle.proof_bytes.proofs.Leading.{exits_by}
use Rattle.proof_bytes.proofs.FieldLemmas.{below_fails, below_or}
use Rattle.proof_bytes.proofs.fields.Fields.var.Goals as goal

pub returns-in_err-index : goal.returns-in_err-index
returns-in_err-index g c = exits_by _ _ c.from_residual.ensures.1 (below_fails _) c.in_err-index.ensures

pub returns : goal.returns
returns g c = rw c.ok_or.ensures.value (below_or _ c.in_ok-index.index c.in_ok-index.ensures _ index_of indexes_of refl (λ v. refl) c.from_index.result c.from_index.ensures)
