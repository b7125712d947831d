use Rattle.std.proofs.Common.{[], ◌∷◌}
use Rattle.refutation_rules.specs.Cubes.{units_of}
use Rattle.circuit_clauses.proofs.MachineLemmas.{one_more, units_last}
use Rattle.circuit_clauses.proofs.latches.add_units.Goals as goal

pub loop-lit-preserved : goal.loop-lit-preserved
loop-lit-preserved c =
    one_more units_of (λ l. (l ∷ []) ∷ []) units_last
    c.args.lits.now c.loop-lit.lit-index c.lit-item.result c.args.formula.now c.loop-lit.formula c.add_clause.new.self c.loop-lit-test.true
    c.lit-item.is c.in_ok-add_clause.ensures.ok c.loop-lit.invariant
