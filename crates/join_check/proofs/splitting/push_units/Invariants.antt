use Rattle.std.proofs.Common.{drop}
use Rattle.refutation_rules.specs.Cubes.{units_of}
use Rattle.sat_output.specs.FormulaTexts.{clauses_text}
use Rattle.join_check.specs.Hashed.{Takes}
use Rattle.join_check.specs.declared.line_hasher.LineHasher.{LineHasher}
use Rattle.join_check.proofs.splitting.push_units.Given as goal

-- with the units of the literals to come it takes them all
abbrev pub invariant-loop-lit : goal.invariant-loop-lit
invariant-loop-lit l = (new : LineHasher) → Takes l.lines new (clauses_text (units_of (drop l.lit-index l.cube))) → Takes l.fn.lines new (clauses_text (units_of l.cube))
