use Rattle.checker_steps.specs.Context.{ContextInvariant}
use Rattle.check_vectors.proofs.parts.play.Given as goal

abbrev pub invariant-loop-call : goal.invariant-loop-call
invariant-loop-call g l = ContextInvariant l.ctx
