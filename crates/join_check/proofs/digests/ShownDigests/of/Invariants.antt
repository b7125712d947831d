use Rattle.std.proofs.Common.{◌+◌, length}
use Rattle.join_check.specs.Digests.{is_shown}
use Rattle.join_check.proofs.Digesting.{Reaches, waiting}
use Rattle.join_check.proofs.digests.ShownDigests.of.Given as goal

abbrev pub invariant-digests : goal.invariant-digests
invariant-digests l = Reaches l.receipts (is_shown l.shown) l.left.items

-- a digest leaves the list, and each receipt puts one there at most once
abbrev pub decreases-digests : goal.decreases-digests
decreases-digests l = waiting (is_shown l.shown) l.receipts + length l.left.items
