use Rattle.circuit_names.specs.Names.{name_in}
use Rattle.circuit_names.proofs.PositionLemmas.{HavePlaces}
use Rattle.circuit_names.proofs.positions.Positions.places.Given as goal

-- the positions of the names before are found
abbrev pub invariant-loop-position : goal.invariant-loop-position
invariant-loop-position l = HavePlaces l.self (name_in l.names l.kind) l.position l.places.items
