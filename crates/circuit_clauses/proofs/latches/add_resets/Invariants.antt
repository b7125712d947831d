use Rattle.std.proofs.Common.{◌≡◌, ◌++◌, map, take}
use Rattle.circuit_rules.specs.Safety.{reset_clauses}
use Rattle.circuit_text.specs.Circuits.{latch_of}
use Rattle.circuit_clauses.proofs.latches.add_resets.Given as goal

abbrev pub invariant-loop-latch : goal.invariant-loop-latch
invariant-loop-latch l = l.formula ≡ l.initial.formula ++ reset_clauses (map latch_of (take l.latch-index l.latches))
