use Rattle.std.proofs.Common.{◌≡◌, drop}
use Rattle.command.specs.Kinds.{behind_comments}
use Rattle.command.proofs.kind.behind_comments.Given as goal

-- the bytes to come leave the same
abbrev pub invariant-loop-place : goal.invariant-loop-place
invariant-loop-place l = behind_comments l.in_line (drop l.place l.bytes) ≡ behind_comments l.fn.in_line l.bytes
