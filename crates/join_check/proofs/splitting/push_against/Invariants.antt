use Rattle.std.proofs.Common.{map}
use Rattle.refutation_rules.specs.Cubes.{clause_against}
use Rattle.sat_output.specs.FormulaTexts.{clauses_text}
use Rattle.join_check.specs.Hashed.{Takes}
use Rattle.join_check.specs.declared.line_hasher.LineHasher.{LineHasher}
use Rattle.join_check.proofs.splitting.push_against.Given as goal

-- with those of the cubes to come it takes them all
abbrev pub invariant-loop-cube : goal.invariant-loop-cube
invariant-loop-cube l = (new : LineHasher) → Takes l.lines new (clauses_text (map clause_against l.cube-iterator)) → Takes l.fn.lines new (clauses_text (map clause_against l.cubes))
