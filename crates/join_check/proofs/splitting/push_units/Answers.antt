use Rattle.std.proofs.Common.{[], ◌∷◌, ◌+◌, drop, sym}
use Rattle.std.proofs.lemmas.List.{drop_more}
use Rattle.refutation_rules.specs.Cubes.{units_of}
use Rattle.join_check.proofs.Hashing.{takes_first}
use Rattle.join_check.proofs.splitting.push_units.Goals as goal

pub loop-lit-preserved : goal.loop-lit-preserved
loop-lit-preserved c = λ new rest.
    c.loop-lit.invariant new
    (rw (drop_more c.args.cube.now c.loop-lit.lit-index c.lit-item.result c.loop-lit-test.true, sym c.lit-item.is)
    (takes_first c.loop-lit.lines c.push.new.self new (c.lit-item.result ∷ []) (units_of (drop (c.loop-lit.lit-index + 1) c.args.cube.now)) c.in_ok-push.ensures rest))
