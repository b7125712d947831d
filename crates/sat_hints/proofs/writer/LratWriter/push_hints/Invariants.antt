use Rattle.std.proofs.Common.{◌≡◌, ◌++◌, decimal, drop, map}
use Rattle.checker_rules.specs.WrittenLines.{number_of}
use Rattle.written_numbers.specs.Words.{spaced}
use Rattle.sat_hints.specs.Writing.{hints_fault, writer_of}
use Rattle.sat_hints.proofs.writer.LratWriter.push_hints.Given as goal

abbrev pub invariant-loop-id : goal.invariant-loop-id
invariant-loop-id l = record {
  text : l.line.items ++ spaced (map decimal (map (number_of (writer_of l.self)) (drop l.id-index l.ids))) ≡
      l.fn.line.items ++ spaced (map decimal (map (number_of (writer_of l.self)) l.ids));
  fault : hints_fault (writer_of l.self) (drop l.id-index l.ids) ≡ hints_fault (writer_of l.self) l.ids;
}
