use Rattle.std.proofs.Common.{◌↔◌}
use Rattle.sat_rules.specs.Named.{NamedBy}
use Rattle.lrat_checker.specs.Held.{table_of}
use Rattle.lrat_checker.proofs.clauses.Clauses.are_named.Given as goal

-- the ids that are left name the clauses that are still to come exactly where all name all
abbrev pub invariant-loop-clause : goal.invariant-loop-clause
invariant-loop-clause l =
    NamedBy (table_of l.self).named l.ids l.wanted ↔ NamedBy (table_of l.self).named l.left l.clause-iterator
