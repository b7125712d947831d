use Rattle.std.proofs.Common.{◌≡◌, map, drop}
use Rattle.circuit_text.specs.Circuits.{latch_of}
use Rattle.circuit_clauses.specs.Causes.{latches_fit}
use Rattle.circuit_clauses.proofs.fits.latches_fit.Given as goal

abbrev pub invariant-loop-latch : goal.invariant-loop-latch
invariant-loop-latch l = latches_fit l.distance (map latch_of l.latches) ≡ latches_fit l.distance (map latch_of (drop l.latch-index l.latches))
