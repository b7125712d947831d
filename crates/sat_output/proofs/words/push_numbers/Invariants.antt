use Rattle.std.proofs.Common.{◌≡◌, ◌++◌, drop, map, decimal}
use Rattle.written_numbers.specs.Words.{spaced}
use Rattle.sat_output.proofs.words.push_numbers.Given as goal

-- what is pushed, and what is still to come, are all of it
abbrev pub invariant-loop-number : goal.invariant-loop-number
invariant-loop-number l = l.text.items ++ spaced (map decimal (drop l.number-index l.numbers)) ≡ l.fn.text.items ++ spaced (map decimal l.numbers)
