use Rattle.std.proofs.Common.{◌≡◌, ◌++◌, drop}
use Rattle.sat_output.specs.LratBytes.{numbers_bytes}
use Rattle.sat_output.proofs.binary.push_numbers.Given as goal

-- what is pushed, and what is still to come, are all of it
abbrev pub invariant-loop-number : goal.invariant-loop-number
invariant-loop-number l = l.bytes.items ++ numbers_bytes (drop l.number-index l.numbers) ≡ l.fn.bytes.items ++ numbers_bytes l.numbers
