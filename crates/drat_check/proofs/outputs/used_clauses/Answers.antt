use Rattle.drat_check.proofs.UsedClauses.{all_seen, none_taken, one_left, one_taken}
use Rattle.drat_check.proofs.outputs.used_clauses.Goals as goal
use Rattle.drat_check.proofs.outputs.used_clauses.Goals.{then-is_used+in_ok-add_clause, else-is_used}

pub loop-clause-init : goal.loop-clause-init
loop-clause-init c = rw c.new-used.ensures (none_taken c.args.formula.now c.into_iter-clause-iterator.result c.into_iter-clause-iterator.ensures.into_iter_gives)

pub loop-clause-preserved : goal.loop-clause-preserved
loop-clause-preserved c =
    let used = c.loop-clause.used in
    let left = c.loop-clause.clause-iterator in
    let rest = c.next.new.self in
    let formula = c.args.formula.now in
    let clause = c.in-Some.clause.now in
    let so_far = c.loop-clause.invariant in
    elim c.if-is_used.branch [
      | then-is_used+in_ok-add_clause w ↦
          rw (w.used-is, w.in_ok-add_clause.ensures.ok) (one_taken used left rest formula clause c.in-Some.ensures.steps so_far)
      | else-is_used w ↦ rw w.used-is (one_left used left rest formula clause c.in-Some.ensures.steps so_far)
    ]

pub returns : goal.returns
returns c = all_seen c.loop-clause.used c.loop-clause.clause-iterator c.args.formula.now c.loop-clause.invariant
