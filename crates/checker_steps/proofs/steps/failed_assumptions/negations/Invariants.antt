use Rattle.std.proofs.Common.{◌≡◌, map, take}
use Rattle.checker_steps.proofs.Common.{negate}
use Rattle.checker_steps.proofs.steps.failed_assumptions.negations.Given as goal

abbrev pub invariant-loop-lit : goal.invariant-loop-lit
invariant-loop-lit l = l.negated.items ≡ map negate (take l.lit-index l.lits)
