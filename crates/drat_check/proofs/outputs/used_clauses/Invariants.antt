use Rattle.drat_check.proofs.UsedClauses.{IsPartSoFar}
use Rattle.drat_check.proofs.outputs.used_clauses.Given as goal

abbrev pub invariant-loop-clause : goal.invariant-loop-clause
invariant-loop-clause l = IsPartSoFar l.used l.clause-iterator l.formula
