use Rattle.clause_table.proofs.MarkLemmas.{mark-none}
use Rattle.clause_table.proofs.marks.Marks.new.Goals as goal

pub returns-clause-marks : goal.returns-clause-marks
returns-clause-marks c = mark-none c.new.result.items c.new-2.result c.new.ensures.items c.new-2.ensures.empty
