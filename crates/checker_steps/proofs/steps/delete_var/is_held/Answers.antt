use Rattle.checker_steps.proofs.DeleteVarLemmas.{held-negative, held-positive}
use Rattle.checker_steps.proofs.steps.delete_var.is_held.Goals as goal

pub returns-then-get-gt0 : goal.returns-then-get-gt0
returns-then-get-gt0 c n es a = held-positive _ _ _ _ a _ _ c.get.ensures c.lit.ensures c.if-get-gt0.true

pub returns-else-get-gt0 : goal.returns-else-get-gt0
returns-else-get-gt0 c n es a =
    held-negative _ _ _ _ a _ _ _ _ c.get.ensures c.lit.ensures c.if-get-gt0.false c.get-else-get-gt0.ensures c.lit-else-get-gt0.ensures
