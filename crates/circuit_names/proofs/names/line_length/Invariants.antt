use Rattle.std.proofs.Common.{◌≡◌, ◌+◌, drop}
use Rattle.circuit_names.specs.Names.{line_length}
use Rattle.circuit_names.proofs.names.line_length.Given as goal

-- the bytes so far are of the line
abbrev pub invariant-loop-place : goal.invariant-loop-place
invariant-loop-place l = l.place + line_length (drop l.place l.bytes) ≡ line_length l.bytes
