use Rattle.sat_output.specs.FormulaTexts.{clauses_text}
use Rattle.join_check.specs.Hashed.{Takes}
use Rattle.join_check.specs.declared.line_hasher.LineHasher.{LineHasher}
use Rattle.join_check.proofs.line_hasher.LineHasher.push_clauses.Given as goal

-- with the lines of the clauses to come it takes them all
abbrev pub invariant-loop-clause : goal.invariant-loop-clause
invariant-loop-clause l = (new : LineHasher) → Takes l.self new (clauses_text l.clause-iterator) → Takes l.fn.self new (clauses_text l.clauses)
