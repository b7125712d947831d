use Rattle.std.proofs.Common.{arith}
use Rattle.clause_table.proofs.MarkLemmas.{none-contains}
use Rattle.clause_table.proofs.marks.Marks.has_far.Goals as goal

pub returns-else-not-is_empty : goal.returns-else-not-is_empty
returns-else-not-is_empty c = grind (arith, none-contains)
