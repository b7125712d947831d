use Rattle.std.proofs.Common.{◌≡◌, drop}
use Rattle.lrat_binary.specs.Telling.{are_doubled}
use Rattle.lrat_binary.specs.declared.telling.Sight.TheVariants.{Letter}
use Rattle.lrat_binary.proofs.telling.are_doubled.Given as goal

-- the bytes to come say the same
abbrev pub invariant-loop-byte : goal.invariant-loop-byte
invariant-loop-byte l = are_doubled l.next l.sight (drop l.byte-index l.first) ≡ are_doubled l.next Letter l.first
