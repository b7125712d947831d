use Rattle.std.proofs.Common.{◌≡◌, drop, nat_eq}
use Rattle.std.specs.List.{list_all}
use Rattle.sat_rules.specs.Clauses.{unfalsified}
use Rattle.clause_table.specs.Values.{among}
use Rattle.clause_table.proofs.values.Values.left_of_several.Given as goal

-- what follows is false or this literal
abbrev pub invariant-loop-other : goal.invariant-loop-other
invariant-loop-other l =
    list_all (nat_eq l.lit) (unfalsified (among l.self) (drop l.other-index l.clause)) ≡ list_all (nat_eq l.lit) (unfalsified (among l.self) l.clause)
