use Rattle.std.proofs.Common.{map}
use Rattle.refutation_rules.specs.Cubes.{clause_against}
use Rattle.join_check.proofs.Hashing.{takes_first}
use Rattle.join_check.proofs.splitting.push_against.Goals as goal

pub loop-cube-preserved : goal.loop-cube-preserved
loop-cube-preserved c = λ new rest.
    c.loop-cube.invariant new
    (rw c.in-Some.ensures.steps (takes_first c.loop-cube.lines c.push.new.self new (clause_against c.in-Some.cube.now) (map clause_against c.next.new.self)
    (rw (c.deref.ensures.value, c.in_ok-negate_into.ensures) at c.in_ok-push.ensures) rest))
