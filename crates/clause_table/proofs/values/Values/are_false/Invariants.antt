use Rattle.std.proofs.Common.{◌≡◌, drop}
use Rattle.sat_rules.specs.Clauses.{is_falsified}
use Rattle.clause_table.specs.Values.{among}
use Rattle.clause_table.proofs.values.Values.are_false.Given as goal

-- what follows is all false
abbrev pub invariant-loop-other : goal.invariant-loop-other
invariant-loop-other l = is_falsified (among l.self) (drop l.other-index l.others) ≡ is_falsified (among l.self) l.others
