use Rattle.std.proofs.Common.{None}
use Rattle.package_rules.specs.Debian.{ranks}
use Rattle.packages.specs.Versions.{IsFaultOf}
use Rattle.packages.proofs.Faults.{behind_at, passes}
use Rattle.packages.proofs.ranks.ranks.Goals as goal

pub returns-in_err-number-clause-fault : goal.returns-in_err-number-clause-fault
returns-in_err-number-clause-fault c =
    passes (IsFaultOf (ranks None c.args.text.now)) _ _ c.from_residual.ensures.1
    (behind_at c.args.text.now c.loop-byte.all.items c.loop-byte.byte-index c.loop-byte.number _ c.loop-byte-test.true c.loop-byte.invariant c.in_err-number.ensures.fault)
