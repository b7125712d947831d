use Rattle.std.proofs.lemmas.Grind.{common_steps}
use Rattle.std.proofs.Common.{sym, ◌∙◌, arith}
use Rattle.checker_parts.proofs.Rising.{rises_after-end, rises_after-is}
use Rattle.checker_parts.proofs.sorted_lits.has_rising_vars.Goals as goal

pub loop-lit-init : goal.loop-lit-init
loop-lit-init c = grind (arith, common_steps, rises_after-is)

pub returns : goal.returns
returns c = sym (rises_after-end c.loop-lit.last c.in-Some.others.now c.loop-lit.lit-index (omega arith)) ∙ c.loop-lit.invariant
