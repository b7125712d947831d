use Rattle.sat_formula.proofs.Lines.{bytes_are_lines}
use Rattle.sat_formula.proofs.laws.bytes_are_lines.Goals as goal

pub returns : goal.returns
returns c = bytes_are_lines
