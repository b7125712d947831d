use Rattle.std.proofs.Common.{◌≡◌, map, drop}
use Rattle.circuit_text.specs.Circuits.{latch_of}
use Rattle.circuit_answers.specs.Reached.{are_placed}
use Rattle.circuit_answers.proofs.starts.are_placed.Given as goal

abbrev pub invariant-loop-latch : goal.invariant-loop-latch
invariant-loop-latch l = are_placed l.first (map latch_of l.latches) ≡ are_placed l.next (map latch_of (drop l.latch-index l.latches))
