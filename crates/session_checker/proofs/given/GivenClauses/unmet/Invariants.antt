use Rattle.std.proofs.Common.{◌≡◌, suc, ◌-◌, ◌≤◌, drop, length}
use Rattle.clause_table.specs.Values.{among}
use Rattle.session_checker.specs.Refusals.{clause_cause}
use Rattle.session_checker.proofs.given.GivenClauses.unmet.Given as goal

-- all before are met, and of these literals are kept
abbrev pub invariant-clauses : goal.invariant-clauses
invariant-clauses l = record {
  kept : l.number ≤ length l.self.met_by.items;
  clauses : l.self.clauses ≡ l.fn.self.clauses;
  cause : clause_cause (suc l.number) (among l.values) (drop l.number l.self.clauses)
      ≡ clause_cause 1 (among l.values) l.fn.self.clauses;
}

abbrev pub decreases-clauses : goal.decreases-clauses
decreases-clauses l = length l.self.clauses - l.number
