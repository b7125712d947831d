use Rattle.std.proofs.Common.{arith, ◌∙◌}
use Rattle.std.proofs.lemmas.Grind.{common_steps}
use Rattle.checker_parts.proofs.CanonicalLists.{shares_var-canonical}
use Rattle.checker_parts.proofs.sorted_lits.has_opposites.Goals as goal

pub returns-then-index : goal.returns-then-index
returns-then-index c = grind (arith, common_steps) ∙ shares_var-canonical c.args.lits.now c.requires

pub returns : goal.returns
returns c = grind (arith, common_steps) ∙ shares_var-canonical c.args.lits.now c.requires
