use Rattle.circuit_clauses.proofs.ClauseLemmas.{difference_on, differences_on}
use Rattle.circuit_clauses.proofs.same.add_differences.Goals as goal

pub loop-index-preserved : goal.loop-index-preserved
loop-index-preserved c =
    let p = c.args.places.now in let os = c.args.outputs.now in let i = c.loop-index.index in let l = c.difference-difference.result in
    let less = c.loop-index-test.true in let is = c.difference-difference.ensures in let before = c.loop-index.invariant in
    record {
      clauses =
          difference_on p.shift.inputs p.shift.distance p.differences os c.args.others.now i l c.index-outputs-index.result c.index-others-index.result c.moved-other.result
          c.requires.as_many less is c.index-outputs-index.is c.index-others-index.is c.moved-other.ensures c.args.formula.now c.loop-index.formula
          c.add_difference.new.formula c.in_ok-add_difference.ensures before.clauses;
      differ = differences_on p.differences os i l c.loop-index.differ.items c.add_literal.new.clause.items less is c.in_ok-add_literal.ensures before.differ;
    }
