use Rattle.std.proofs.Common.{◌≡◌}
use Rattle.circuit_answers.specs.Reached.{padded}
use Rattle.circuit_answers.proofs.reached.given_values.Given as goal

abbrev pub invariant-loop-index : goal.invariant-loop-index
invariant-loop-index l = l.given.items ≡ padded l.index l.inputs
