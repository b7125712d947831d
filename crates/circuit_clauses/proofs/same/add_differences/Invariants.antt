use Rattle.std.proofs.Common.{◌≡◌, ◌++◌, take}
use Rattle.circuit_rules.specs.Checks.{difference_clauses, differences}
use Rattle.circuit_clauses.proofs.same.add_differences.Given as goal

abbrev pub invariant-loop-index : goal.invariant-loop-index
invariant-loop-index l = record {
  clauses : l.formula ≡ l.initial.formula
      ++ difference_clauses l.places.shift.inputs l.places.shift.distance l.places.differences (take l.index l.outputs) (take l.index l.others);
  differ : l.differ.items ≡ differences l.places.differences (take l.index l.outputs);
}
