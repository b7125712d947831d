use Rattle.std.proofs.Common.{◌≡◌}
use Rattle.answer_text.specs.Literals.{has_lit}
use Rattle.circuit_answers.specs.Simulations.{input_by}
use Rattle.circuit_answers.proofs.input.read_input.Given as goal

abbrev pub invariant-loop-index : goal.invariant-loop-index
invariant-loop-index l = l.input.items ≡ input_by (has_lit l.literals) l.index
