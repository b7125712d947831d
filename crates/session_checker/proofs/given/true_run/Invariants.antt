use Rattle.std.proofs.Common.{◌≡◌, ◌+◌, drop}
use Rattle.clause_table.specs.Values.{among}
use Rattle.session_checker.specs.Meeting.{true_run}
use Rattle.session_checker.proofs.given.true_run.Given as goal

-- all before are true
abbrev pub invariant-loop-lit : goal.invariant-loop-lit
invariant-loop-lit l = record {
  count : l.count ≡ l.lit-index;
  run : l.count + true_run (among l.values) (drop l.lit-index l.lits) ≡ true_run (among l.values) l.lits;
}
