use Rattle.std.proofs.Common.{◌≡◌, drop}
use Rattle.package_rules.specs.Debian.{against_rest}
use Rattle.packages.proofs.ranks.against_rest.Given as goal

abbrev pub invariant-loop-rank : goal.invariant-loop-rank
invariant-loop-rank l = against_rest l.number l.rest ≡ against_rest l.is_number (drop l.rank-index l.rest)
