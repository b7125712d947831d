use Rattle.std.proofs.Common.{◌≡◌, drop}
use Rattle.command.specs.Kinds.{ends_at_zero}
use Rattle.command.specs.declared.kind.Word.TheVariants.{Nothing}
use Rattle.command.proofs.kind.ends_at_zero.Given as goal

-- the bytes to come say the same of the line
abbrev pub invariant-loop-byte : goal.invariant-loop-byte
invariant-loop-byte l = ends_at_zero l.word (drop l.byte-index l.bytes) ≡ ends_at_zero Nothing l.bytes
