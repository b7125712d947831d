use Rattle.std.proofs.Common.{◌≡◌, length}
use Rattle.sat_rules.specs.Clauses.{unfalsified}
use Rattle.clause_table.specs.Values.{among}
use Rattle.clause_table.proofs.values.Values.last_left.Given as goal

-- what comes after is all false
abbrev pub invariant-loop-lit : goal.invariant-loop-lit
invariant-loop-lit l = unfalsified (among l.self) l.rest ≡ unfalsified (among l.self) l.clause

abbrev pub decreases-loop-lit : goal.decreases-loop-lit
decreases-loop-lit l = length l.rest
