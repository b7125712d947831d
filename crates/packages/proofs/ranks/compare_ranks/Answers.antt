use Rattle.std.proofs.Common.{◌∙◌, arith}
use Rattle.packages.proofs.Numbers.{ended}
use Rattle.packages.proofs.ranks.compare_ranks.Goals as goal

pub returns-then-place-other : goal.returns-then-place-other
returns-then-place-other c =
    c.against_rest.ensures ∙ ended c.loop-place.number c.args.one.now c.args.other.now c.loop-place.place (grind (arith, c.if-place-other.true)) c.loop-place.invariant.0
