use Rattle.std.proofs.Common.{◌≡◌, ◌++◌, None, drop}
use Rattle.package_rules.specs.Debian.{ranks}
use Rattle.packages.proofs.ranks.ranks.Given as goal

abbrev pub invariant-loop-byte : goal.invariant-loop-byte
invariant-loop-byte l = l.all.items ++ ranks l.number (drop l.byte-index l.text) ≡ ranks None l.text
