use Rattle.std.proofs.Common.{arith}
use Rattle.clause_table.proofs.MarkLemmas.{mark-unset}
use Rattle.clause_table.proofs.marks.Marks.clear.Goals as goal

pub returns-then-code-len-clause-marks : goal.returns-then-code-len-clause-marks
returns-then-code-len-clause-marks c l = grind (arith, mark-unset)

pub returns-else-code-len-clause-marks : goal.returns-else-code-len-clause-marks
returns-else-code-len-clause-marks c l = grind (arith, c.clear_far.ensures.marks l)
