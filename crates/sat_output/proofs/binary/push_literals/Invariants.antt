use Rattle.std.proofs.Common.{◌≡◌, ◌++◌, drop, map}
use Rattle.sat_output.specs.LratBytes.{lit_number, numbers_bytes}
use Rattle.sat_output.proofs.binary.push_literals.Given as goal

-- what is pushed, and what is still to come, are all of it
abbrev pub invariant-loop-lit : goal.invariant-loop-lit
invariant-loop-lit l = l.bytes.items ++ numbers_bytes (map lit_number (drop l.lit-index l.lits)) ≡ l.fn.bytes.items ++ numbers_bytes (map lit_number l.lits)
