use Rattle.std.proofs.Common.{◌≡◌, ◌++◌, map, take}
use Rattle.circuit_answers.specs.Lines.{digit_of}
use Rattle.circuit_answers.proofs.lines.add_digits.Given as goal

abbrev pub invariant-loop-value : goal.invariant-loop-value
invariant-loop-value l = l.text.items ≡ l.initial.text.items ++ map digit_of (take l.value-index l.values)
