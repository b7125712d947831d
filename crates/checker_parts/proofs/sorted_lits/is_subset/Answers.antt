use Rattle.std.proofs.Common.{arith, ◌∙◌}
use Rattle.std.proofs.lemmas.Grind.{common_steps}
use Rattle.checker_parts.proofs.SubsetWalks.{subset_walk-canonical, subset_walk-end}
use Rattle.checker_parts.proofs.sorted_lits.is_subset.Goals as goal

pub returns-in_default-split_first : goal.returns-in_default-split_first
returns-in_default-split_first c = grind (arith, common_steps) ∙ subset_walk-canonical c.args.strict c.args.subset.now c.args.superset.now c.requires.subset c.requires.superset

pub returns-in-Less : goal.returns-in-Less
returns-in-Less c = grind (arith, common_steps) ∙ subset_walk-canonical c.args.strict c.args.subset.now c.args.superset.now c.requires.subset c.requires.superset

pub returns-then-is_empty : goal.returns-then-is_empty
returns-then-is_empty c = grind (arith, common_steps) ∙ subset_walk-canonical c.args.strict c.args.subset.now c.args.superset.now c.requires.subset c.requires.superset

pub returns-else-is_empty : goal.returns-else-is_empty
returns-else-is_empty c = grind (arith, common_steps, subset_walk-end, subset_walk-canonical)
