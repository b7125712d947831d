use Rattle.std.proofs.Common.{◌≡◌, map, drop}
use Rattle.circuit_text.specs.Circuits.{latch_of}
use Rattle.circuit_answers.specs.Reached.{other_start}
use Rattle.circuit_answers.proofs.starts.other_start.Given as goal

abbrev pub invariant-loop-latch : goal.invariant-loop-latch
invariant-loop-latch l = record {
  count : l.index ≡ l.latch-index;
  same : other_start 0 (map latch_of l.latches) l.values ≡ other_start l.index (map latch_of (drop l.latch-index l.latches)) l.values;
}
