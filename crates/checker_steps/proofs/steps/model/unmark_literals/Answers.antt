use Rattle.checker_steps.proofs.Common.{drop_all}
use Rattle.std.proofs.Common.{drop}
use Rattle.checker_steps.proofs.ModelLemmas.{unmarked-all}
use Rattle.checker_steps.proofs.steps.model.unmark_literals.Goals as goal

pub returns : goal.returns
returns c = unmarked-all c.loop-lit.marks (drop c.loop-lit.lit-index c.args.lits.now) (drop_all c.loop-lit.lit-index c.args.lits.now c.loop-lit-test.false) c.loop-lit.invariant
