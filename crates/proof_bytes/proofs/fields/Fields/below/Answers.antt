use Rattle.proof_bytes.proofs.Leading.{exits_by, malformed}
use Rattle.proof_bytes.proofs.FieldLemmas.{below_fails, below_ok, below_wrong}
use Rattle.proof_bytes.proofs.fields.Fields.below.Goals as goal

pub returns-in_err-n-clause-read : goal.returns-in_err-n-clause-read
returns-in_err-n-clause-read g c = exits_by _ _ c.from_residual.ensures.1 (below_fails c.args.limit) c.in_err-n.ensures

pub returns-then-n-limit-clause-read : goal.returns-then-n-limit-clause-read
returns-then-n-limit-clause-read g c = below_ok c.args.limit c.in_ok-n.n c.in_ok-n.ensures c.if-n-limit.true

pub returns-else-n-limit-clause-read : goal.returns-else-n-limit-clause-read
returns-else-n-limit-clause-read g c = malformed (below_wrong c.args.limit c.in_ok-n.n c.in_ok-n.ensures c.if-n-limit.false)
