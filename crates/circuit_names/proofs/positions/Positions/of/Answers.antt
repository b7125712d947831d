use Rattle.std.proofs.Common.{◌≡◌, ◌≢◌, ◌∙◌, ap, [], None, rules, arith}
use Rattle.circuit_names.specs.Names.{count_in, name_in}
use Rattle.circuit_names.specs.Positions.{position_of}
use Rattle.circuit_names.proofs.PositionLemmas.{all_names, is_repeated, names_put}
use Rattle.circuit_names.proofs.positions.Positions.of.Goals as goal

pub returns-then-is_some-clause-fault : goal.returns-then-is_some-clause-fault
returns-then-is_some-clause-fault c = λ others.
    rw c.spot-then-is_some.ensures
    (is_repeated c.args.names.now c.args.kind c.loop-position.position c.loop-position.positions others c.get.result c.loop-position.invariant
    (c.get.ensures ∙ ap (λ name. position_of c.loop-position.positions name) c.name-name.ensures) (search rules) (search rules))

pub loop-position-preserved : goal.loop-position-preserved
loop-position-preserved c =
    let names = name_in c.args.names.now c.args.kind in
    let some : names c.loop-position.position ≢ [] = search rules in
    let new : position_of c.loop-position.positions (names c.loop-position.position) ≡ None = search rules in
    names_put names c.loop-position.position c.loop-position.positions _ c.loop-position.invariant some new (rw c.name-name.ensures at c.in_ok-put.ensures)

pub returns-clause-positions : goal.returns-clause-positions
returns-clause-positions c =
    all_names (count_in c.args.names.now c.args.kind) c.loop-position.position (name_in c.args.names.now c.args.kind) c.loop-position.positions (omega arith) c.loop-position.invariant
