-- Each step continues by one place.
use Rattle.std.proofs.Common.{◌-◌, length}
use Rattle.drat_elaborate.proofs.watches.Watches.skip_unwatched.Given as goal

abbrev pub decreases-loop-place : goal.decreases-loop-place
decreases-loop-place l = length l.lits - l.place
