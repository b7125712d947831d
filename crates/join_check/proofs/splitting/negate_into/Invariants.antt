use Rattle.std.proofs.Common.{◌≡◌, ◌++◌, drop}
use Rattle.refutation_rules.specs.Cubes.{clause_against}
use Rattle.join_check.proofs.splitting.negate_into.Given as goal

-- with the negations of the literals to come it is all
abbrev pub invariant-loop-lit : goal.invariant-loop-lit
invariant-loop-lit l = l.clause.items ++ clause_against (drop l.lit-index l.cube) ≡ clause_against l.cube
