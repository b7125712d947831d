use Rattle.std.proofs.Common.{arith}
use Rattle.clause_table.proofs.MarkLemmas.{mark-set}
use Rattle.clause_table.proofs.marks.Marks.insert.Goals as goal

pub returns-then-has-clause-ok : goal.returns-then-has-clause-ok
returns-then-has-clause-ok c l = grind arith

pub returns-clause-ok : goal.returns-clause-ok
returns-clause-ok c l = grind (arith, mark-set)
