use Rattle.std.proofs.Common.{◌≡◌, false, drop, map}
use Rattle.checker_rules.specs.Check.{apply_names}
use Rattle.clause_store.specs.Names.{AgreeOnHeld, indexes, names_of}
use Rattle.clause_store.proofs.hash.apply_names.Given as goal

abbrev pub invariant-loop-var : goal.invariant-loop-var
invariant-loop-var l = record {
  applied : apply_names (names_of l.names) (map indexes (drop l.var-index l.pending)) ≡ apply_names (names_of l.initial.names) (map indexes l.pending);
  changed : l.changed ≡ false → AgreeOnHeld l.counts (names_of l.initial.names) (names_of l.names);
}
