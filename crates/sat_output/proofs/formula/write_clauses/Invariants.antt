use Rattle.sat_output.proofs.WrittenClauses.{Written}
use Rattle.sat_output.proofs.formula.write_clauses.Given as goal

-- what is written, and the lines of the clauses still to come, are the whole text
abbrev pub invariant-loop-clause : goal.invariant-loop-clause
invariant-loop-clause g l = Written (g.W.Write.contents l.fn.out) (g.W.Write.contents l.out) l.clause-iterator l.formula
