use Rattle.std.proofs.Common.{arith}
use Rattle.std.proofs.lemmas.Grind.{common_steps}
use Rattle.follows_check.proofs.Assigning.{assigned_more}
use Rattle.follows_check.proofs.values.Values.assign.Goals as goal

pub loop-lit-preserved : goal.loop-lit-preserved
loop-lit-preserved c = λ x. grind (arith, common_steps, assigned_more, c.loop-lit.invariant x)
