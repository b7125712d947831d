use Rattle.std.proofs.Common.{◌≡◌, drop}
use Rattle.command.specs.Kinds.{is_lrat_line}
use Rattle.command.specs.declared.kind.Part.TheVariants.{Id}
use Rattle.command.proofs.kind.is_lrat_line.Given as goal

-- the bytes to come say the same of the line
abbrev pub invariant-loop-place : goal.invariant-loop-place
invariant-loop-place l = is_lrat_line l.part (drop l.place l.bytes) ≡ is_lrat_line Id l.bytes
