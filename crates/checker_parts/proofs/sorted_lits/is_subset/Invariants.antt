use Rattle.std.proofs.Common.{◌≡◌, length}
use Rattle.checker_parts.proofs.SubsetWalks.{subset_walk}
use Rattle.checker_parts.proofs.sorted_lits.is_subset.Given as goal

abbrev pub invariant-loop-present : goal.invariant-loop-present
invariant-loop-present l = subset_walk l.strict l.subset l.superset ≡ subset_walk l.fn.strict l.fn.subset l.fn.superset

abbrev pub decreases-loop-present : goal.decreases-loop-present
decreases-loop-present l = length l.superset
