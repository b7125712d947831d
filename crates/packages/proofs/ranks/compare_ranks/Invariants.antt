use Rattle.std.proofs.Common.{◌≡◌, ◌≤◌, false, length, drop}
use Rattle.package_rules.specs.Debian.{compare_ranks}
use Rattle.packages.proofs.ranks.compare_ranks.Given as goal

abbrev pub invariant-loop-place : goal.invariant-loop-place
invariant-loop-place l = (compare_ranks false l.one l.other ≡ compare_ranks l.number (drop l.place l.one) (drop l.place l.other)) × (l.place ≤ length l.other)
