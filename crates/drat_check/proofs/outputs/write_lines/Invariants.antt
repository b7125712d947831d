use Rattle.drat_check.specs.Outputs.{bytes_in}
use Rattle.drat_check.proofs.WrittenLines.{SoFar}
use Rattle.drat_check.proofs.outputs.write_lines.Given as goal

abbrev pub invariant-lines : goal.invariant-lines
invariant-lines g l = SoFar l.fn.form l.fn.formula (bytes_in g.L.Write.contents l.fn.lrat) (bytes_in g.L.Write.contents l.lrat)
    (bytes_in g.L.Write.contents l.fn.trim) (bytes_in g.L.Write.contents l.trim) l.checker l.last l.has_begun
