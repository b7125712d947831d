use Rattle.std.proofs.Common.{◌≡◌, ◌++◌, drop}
use Rattle.handles.specs.Numbers.{are_lits, lits_of}
use Rattle.handles.proofs.lits.read_lits.Given as goal

-- with the literals of the numbers still to come, they are all; all are literals if those are
abbrev pub invariant-loop-number : goal.invariant-loop-number
invariant-loop-number l = record {
  lits : l.lits.items ++ lits_of (drop l.number-index l.numbers) ≡ lits_of l.numbers;
  readable : are_lits (drop l.number-index l.numbers) ≡ are_lits l.numbers;
}
