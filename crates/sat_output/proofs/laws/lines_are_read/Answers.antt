use Rattle.sat_output.proofs.LratLines as lrat
use Rattle.sat_output.proofs.laws.lines_are_read.Goals as goal

pub returns : goal.returns
returns c = lrat.lines_are_read
