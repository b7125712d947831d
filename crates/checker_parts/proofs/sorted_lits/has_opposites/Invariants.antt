use Rattle.std.proofs.Common.{◌≡◌, length}
use Rattle.checker_parts.proofs.CanonicalLists.{shares_var}
use Rattle.checker_parts.proofs.sorted_lits.has_opposites.Given as goal

abbrev pub invariant-loop-first : goal.invariant-loop-first
invariant-loop-first l = shares_var l.rest ≡ shares_var l.lits

abbrev pub decreases-loop-first : goal.decreases-loop-first
decreases-loop-first l = length l.rest
