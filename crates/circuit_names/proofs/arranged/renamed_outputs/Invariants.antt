use Rattle.std.proofs.Common.{◌≡◌, map, take}
use Rattle.std.specs.Prelude.{slice_index}
use Rattle.circuit_names.specs.Pairs.{renamed}
use Rattle.circuit_names.proofs.arranged.renamed_outputs.Given as goal

abbrev pub invariant-loop-place : goal.invariant-loop-place
invariant-loop-place l = l.made.items ≡ map (λ place. renamed l.inputs (slice_index l.outputs place)) (take l.place-index l.places)
