use Rattle.std.proofs.Common.{◌≡◌, map, take}
use Rattle.circuit_names.specs.Pairs.{input_lit}
use Rattle.circuit_names.proofs.arranged.input_lits.Given as goal

abbrev pub invariant-loop-place : goal.invariant-loop-place
invariant-loop-place l = l.lits.items ≡ map input_lit (take l.place-index l.places)
