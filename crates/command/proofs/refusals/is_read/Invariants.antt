use Rattle.std.proofs.Common.{◌≡◌, drop}
use Rattle.command.specs.Written.{is_read}
use Rattle.command.proofs.refusals.is_read.Given as goal

-- among the inputs to come it is the same
abbrev pub invariant-loop-input : goal.invariant-loop-input
invariant-loop-input l = is_read l.name (drop l.input-index l.inputs) ≡ is_read l.name l.inputs
