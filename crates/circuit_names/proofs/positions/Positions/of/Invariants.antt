use Rattle.circuit_names.specs.Names.{name_in}
use Rattle.circuit_names.specs.Positions.{HasNames}
use Rattle.circuit_names.proofs.positions.Positions.of.Given as goal

-- the positions of the names before are kept
abbrev pub invariant-loop-position : goal.invariant-loop-position
invariant-loop-position l = HasNames l.position (name_in l.names l.kind) l.positions
