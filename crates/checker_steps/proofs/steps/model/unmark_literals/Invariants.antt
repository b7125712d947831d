use Rattle.std.proofs.Common.{drop}
use Rattle.checker_steps.proofs.Common.{MarksOnly}
use Rattle.checker_steps.proofs.steps.model.unmark_literals.Given as goal

-- what is still marked comes later in the list
abbrev pub invariant-loop-lit : goal.invariant-loop-lit
invariant-loop-lit l = MarksOnly l.marks (drop l.lit-index l.lits)
