use Rattle.std.proofs.Common.{arith}
use Rattle.circuit_names.specs.Names.{count_in, name_in}
use Rattle.circuit_names.proofs.PositionLemmas.{all_places, are_places}
use Rattle.circuit_names.proofs.positions.Positions.places.Goals as goal

pub returns-clause-places : goal.returns-clause-places
returns-clause-places c =
    let n = count_in c.args.names.now c.args.kind in
    let names = name_in c.args.names.now c.args.kind in
    are_places c.args.self.now names n c.loop-position.places.items
    (all_places n c.loop-position.position c.args.self.now names c.loop-position.places.items (omega arith) c.loop-position.invariant)
