use Rattle.join_check.proofs.Hashing.{takes_first}
use Rattle.join_check.proofs.line_hasher.LineHasher.push_clauses.Goals as goal

pub loop-clause-preserved : goal.loop-clause-preserved
loop-clause-preserved c = λ new rest.
    c.loop-clause.invariant new (rw c.in-Some.ensures.steps (takes_first c.loop-clause.self c.push.new.self new c.in-Some.clause.now c.next.new.self c.in_ok-push.ensures rest))
