use Rattle.std.proofs.Common.{◌≡◌, drop}
use Rattle.std.specs.List.{list_all}
use Rattle.sat_rules.specs.Clauses.{negate}
use Rattle.clause_store.specs.Rup.{true_lits}
use Rattle.clause_store.proofs.rup.status.are_false.Given as goal

abbrev pub invariant-loop-lit : goal.invariant-loop-lit
invariant-loop-lit l =
    list_all (λ m. true_lits l.units (negate m)) (drop l.lit-index l.lits) ≡ list_all (λ m. true_lits l.units (negate m)) l.lits
