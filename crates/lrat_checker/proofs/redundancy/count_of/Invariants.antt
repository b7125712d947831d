use Rattle.std.proofs.Common.{◌≡◌, ◌+◌, ◌≤◌, drop}
use Rattle.lrat_rules.specs.Counts.{count_of}
use Rattle.lrat_checker.proofs.redundancy.count_of.Given as goal

-- with those still to come, all are counted
abbrev pub invariant-loop-other : goal.invariant-loop-other
invariant-loop-other l = record {
  counted : l.count + count_of l.lit (drop l.other-index l.clause) ≡ count_of l.lit l.clause;
  fits : l.count ≤ l.other-index;
}
