use Rattle.std.proofs.Common.{arith}
use Rattle.clause_table.proofs.MarkLemmas.{mark-at, mark-past}
use Rattle.clause_table.proofs.marks.Marks.has_in.Goals as goal

pub returns-then-code-near : goal.returns-then-code-near
returns-then-code-near c = grind (arith, mark-at)

pub returns-else-code-near : goal.returns-else-code-near
returns-else-code-near c = grind (arith, mark-past)
