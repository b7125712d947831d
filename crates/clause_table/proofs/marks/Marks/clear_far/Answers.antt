use Rattle.clause_table.proofs.MarkLemmas.{mark-removed}
use Rattle.clause_table.proofs.marks.Marks.clear_far.Goals as goal

pub returns-clause-marks : goal.returns-clause-marks
returns-clause-marks c = mark-removed c.args.self.now.near.items c.args.self.now.far c.remove.new.self c.args.code c.requires c.remove.ensures.updates.0
