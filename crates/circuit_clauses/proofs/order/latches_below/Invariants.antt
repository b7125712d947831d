use Rattle.std.proofs.Common.{◌≡◌, map, drop}
use Rattle.circuit_rules.specs.Safety.{latches_below}
use Rattle.circuit_text.specs.Circuits.{latch_of}
use Rattle.circuit_clauses.proofs.order.latches_below.Given as goal

abbrev pub invariant-loop-latch : goal.invariant-loop-latch
invariant-loop-latch l = latches_below l.states l.limit (map latch_of l.latches) ≡ latches_below l.states l.limit (map latch_of (drop l.latch-index l.latches))
